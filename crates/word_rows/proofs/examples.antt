mod RowExamples
mod TestExamples
mod DataExamples
