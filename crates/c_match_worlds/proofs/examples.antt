mod MatchExamples
