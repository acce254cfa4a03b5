pub mod Requests
pub mod EvalText
pub mod Answers
pub mod Conduct
