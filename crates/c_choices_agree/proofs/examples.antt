mod WayExamples
