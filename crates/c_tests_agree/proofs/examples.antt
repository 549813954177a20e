mod LabelExamples
