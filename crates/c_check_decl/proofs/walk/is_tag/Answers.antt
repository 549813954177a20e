use Rattle.std.proofs.Common.{arith}
use Rattle.c_ast.proofs.lemmas.SeenTypes.{specifier_forms}
use Rattle.c_check_decl.proofs.walk.is_tag.Goals as goal

pub returns-in-Record : goal.returns-in-Record
returns-in-Record c = λ line. grind (arith, specifier_forms)

pub returns-in-RecordTag : goal.returns-in-RecordTag
returns-in-RecordTag c = λ line. let form = c.in-RecordTag.is in grind (arith, specifier_forms, form)

pub returns-in-RecordTag-2 : goal.returns-in-RecordTag-2
returns-in-RecordTag-2 c = λ line. let form = c.in-RecordTag.is in grind (arith, specifier_forms, form)

pub returns-in-RecordTag-3 : goal.returns-in-RecordTag-3
returns-in-RecordTag-3 c = λ line. let form = c.in-RecordTag.is in grind (arith, specifier_forms, form)

pub returns-in-Storage : goal.returns-in-Storage
returns-in-Storage c = λ line. let form = c.in-Storage.is in grind (arith, specifier_forms, form)

pub returns-in-Storage-2 : goal.returns-in-Storage-2
returns-in-Storage-2 c = λ line. let form = c.in-Storage.is in grind (arith, specifier_forms, form)

pub returns-in-Storage-3 : goal.returns-in-Storage-3
returns-in-Storage-3 c = λ line. let form = c.in-Storage.is in grind (arith, specifier_forms, form)

pub returns-in-Storage-4 : goal.returns-in-Storage-4
returns-in-Storage-4 c = λ line. let form = c.in-Storage.is in grind (arith, specifier_forms, form)
