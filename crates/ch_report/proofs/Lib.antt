mod Lines
pub mod RankLines
