mod UnitExamples
