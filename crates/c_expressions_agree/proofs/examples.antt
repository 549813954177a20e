mod VoidExamples
