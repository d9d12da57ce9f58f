pub mod Rising
pub mod Reading
pub mod Words
