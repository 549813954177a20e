mod CaseExamples
