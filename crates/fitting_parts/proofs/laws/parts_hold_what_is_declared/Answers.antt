use Rattle.fitting_parts.proofs.Fitted.{holding_held, root_fits}
use Rattle.fitting_parts.proofs.laws.parts_hold_what_is_declared.Goals as goal

pub returns-clause-holds : goal.returns-clause-holds
returns-clause-holds c kinds kind attributes particles gs parts is own fits = holding_held kinds kind attributes particles gs parts is own fits

pub returns-clause-root : goal.returns-clause-root
returns-clause-root c s i root inside found held = root_fits s i root inside found held
