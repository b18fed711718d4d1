pub mod Tests
pub mod SearchLaws
pub mod LinesLaws
pub mod FreeLaws
pub mod WalkLaws
pub mod Range
pub mod Cells
pub mod Checks
pub mod Placed
pub mod OnLists
pub mod Loops
pub mod Ends
pub mod Ruled
pub mod Origins
pub mod Answers
pub mod Promises
mod Case
mod Limits
mod Telling
