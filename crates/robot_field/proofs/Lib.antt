pub mod Replies
pub mod Reading
pub mod Spellings
pub mod FirstBad
pub mod Cells
pub mod EachText
