mod SymbolExamples
mod KeptExamples
