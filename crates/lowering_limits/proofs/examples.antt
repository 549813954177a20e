mod LimitExamples
