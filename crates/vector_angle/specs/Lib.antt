pub mod VectorAngle
