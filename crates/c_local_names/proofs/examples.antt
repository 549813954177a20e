mod LocalExamples
mod KnownExamples
