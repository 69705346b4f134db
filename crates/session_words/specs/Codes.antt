-- ISO 15118-2:2014, responseCodeType; DIN SPEC 70121:2014.
use Rattle.session_words.specs.declared.code.Code.{Code}
use Rattle.session_words.specs.declared.code.Code.TheVariants as code

-- the codes whose name begins with OK
abbrev pub IsOkClass : Code → Type 0
IsOkClass code.Ok = Unit {0}
IsOkClass code.OkNewSessionEstablished = Unit {0}
IsOkClass code.OkOldSessionJoined = Unit {0}
IsOkClass code.OkCertificateExpiresSoon = Unit {0}
IsOkClass _ = ⊥
