use Rattle.objects.proofs.pointers.has_no_equality.Goals as goal

pub returns-in-Function : goal.returns-in-Function
returns-in-Function c = rw c.in-Function.is (c.is_function_open.ensures c.in-Function.field-0)
