pub mod Sound
pub mod Board
pub mod Laws
pub mod Numbers
pub mod Text
pub mod FieldText
