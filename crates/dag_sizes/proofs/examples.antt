mod SizeExamples
