use Rattle.pair_codecs.proofs.Agreed as agreed
use Rattle.pair_codecs.proofs.Fitting as fitting
use Rattle.pair_codecs.proofs.codecs_fit_together.Goals as goal

pub returns-clause-mutual : goal.returns-clause-mutual
returns-clause-mutual c = fitting.are_mutual

pub returns-clause-agree : goal.returns-clause-agree
returns-clause-agree c = agreed.agree_on_shared

pub returns-clause-begin : goal.returns-clause-begin
returns-clause-begin c = fitting.sessions_begin

pub returns-clause-fit : goal.returns-clause-fit
returns-clause-fit c = fitting.are_fit
