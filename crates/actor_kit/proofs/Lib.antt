pub mod EndsCross
pub mod GivenMore
