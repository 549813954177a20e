pub mod DeclaresStay
pub mod FillStmts
pub mod StmtsStay
