mod LoopExamples
