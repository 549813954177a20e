mod ChangeExamples
mod FrameExamples
