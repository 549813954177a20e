mod CallExamples
mod CauseExamples
mod CountExamples
mod ExpressionExamples
mod LocalExamples
mod RowExamples
mod RunExamples
mod StatementExamples
