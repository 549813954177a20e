mod JumpExamples
