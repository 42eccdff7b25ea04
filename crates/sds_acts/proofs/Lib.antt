pub mod CallEnds
pub mod QuietActs
pub mod Given
pub mod OwnAnswers
pub mod Stands
pub mod Routes
pub mod Tokens
