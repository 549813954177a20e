mod FieldExamples
