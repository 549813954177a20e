mod FillExamples
