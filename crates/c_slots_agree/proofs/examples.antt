mod SlotExamples
