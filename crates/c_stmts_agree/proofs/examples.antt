mod LoopExamples
mod TableExamples
