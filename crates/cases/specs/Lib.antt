pub mod WorkedNumbers
