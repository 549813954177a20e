mod MarkExamples
mod StepExamples
