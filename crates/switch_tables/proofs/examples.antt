mod TableExamples
mod SearchExamples
