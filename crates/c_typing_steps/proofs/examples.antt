mod StandExamples
