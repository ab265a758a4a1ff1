-- `Passing`: the test, at the start of a step and inside it, and the theorem that the two stages find the angle; `Crossing`: among which four units of a step
-- it lies; `Signs`: the quadrants by the components' signs.
pub mod Passing
pub mod Crossing
pub mod Signs
