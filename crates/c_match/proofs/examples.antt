mod HeldExamples
