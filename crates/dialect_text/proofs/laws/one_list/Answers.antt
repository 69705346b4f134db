use Rattle.dialect_text.proofs.Once as once
use Rattle.dialect_text.proofs.laws.one_list.Goals as goal

pub returns : goal.returns
returns c s a b text p q = once.one_list s a b text p q
