pub mod Alike
pub mod Expression
pub mod ExpressionCode
pub mod Joints
pub mod Leaves
pub mod Parts
pub mod Plain
pub mod View
