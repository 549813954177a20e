mod Samples
mod StraightExamples
mod CallExamples
mod JumpExamples
mod RelationExamples
mod SizeExamples
mod FieldExamples
