-- The words of a command.
use Rattle.std.proofs.Common.{◌≡◌, ◌≤◌, ℕ, List}
use Rattle.message_dialects.specs.declared.dialect.MessageDialect.{MessageDialect}
use Rattle.command_words.specs.Command.{IsAudit, IsDecode, IsEncode, IsGenerate, IsOffer, IsPick, IsServices, IsTalk, audit, decode, encode, generate, most_sessions, offer, pick, services, talk}
use Rattle.command_words.proofs.Told.{one_asked}

same_decode : (d e : MessageDialect) (a b : List ℕ) → decode d a ≡ decode e b → (d ≡ e) × (a ≡ b)
same_decode d e a b h = (cc, cc)

same_encode : (d e : MessageDialect) (a b : List ℕ) → encode d a ≡ encode e b → (d ≡ e) × (a ≡ b)
same_encode d e a b h = (cc, cc)

same_audit : (a b p q : List ℕ) → audit a p ≡ audit b q → (a ≡ b) × (p ≡ q)
same_audit a b p q h = (cc, cc)

same_talk : (a b p q : List ℕ) (m n : ℕ) → talk a p m ≡ talk b q n → (a ≡ b) × (p ≡ q) × (m ≡ n)
same_talk a b p q m n h = (cc, cc, cc)

same_generate : (m n p q : ℕ) → generate m p ≡ generate n q → (m ≡ n) × (p ≡ q)
same_generate m n p q h = (cc, cc)

same_offer : (m n : ℕ) (a b : List ℕ) → offer a m ≡ offer b n → (a ≡ b) × (m ≡ n)
same_offer m n a b h = (cc, cc)

same_services : (m n : ℕ) (a b : List ℕ) → services a m ≡ services b n → (a ≡ b) × (m ≡ n)
same_services m n a b h = (cc, cc)

same_pick : (a b p q : List ℕ) → pick a p ≡ pick b q → (a ≡ b) × (p ≡ q)
same_pick a b p q h = (cc, cc)

-- the words of a command have one dialect and one value
pub one_decode : (words : List (List ℕ)) (d e : MessageDialect) (a b : List ℕ) → IsDecode words d a → IsDecode words e b → (d ≡ e) × (a ≡ b)
one_decode words d e a b h k = same_decode d e a b (one_asked words (decode d a) (decode e b) h k)

pub one_encode : (words : List (List ℕ)) (d e : MessageDialect) (a b : List ℕ) → IsEncode words d a → IsEncode words e b → (d ≡ e) × (a ≡ b)
one_encode words d e a b h k = same_encode d e a b (one_asked words (encode d a) (encode e b) h k)

-- and one plan and one trace
pub one_audit : (words : List (List ℕ)) (a b p q : List ℕ) → IsAudit words a p → IsAudit words b q → (a ≡ b) × (p ≡ q)
one_audit words a b p q h k = same_audit a b p q (one_asked words (audit a p) (audit b q) h k)

-- and two plans and one seed
pub one_talk : (words : List (List ℕ)) (a b p q : List ℕ) (m n : ℕ) → IsTalk words a p m → IsTalk words b q n → (a ≡ b) × (p ≡ q) × (m ≡ n)
one_talk words a b p q m n h k = same_talk a b p q m n (one_asked words (talk a p m) (talk b q n) h k)

-- and one seed and one count
pub one_generate : (words : List (List ℕ)) (m n p q : ℕ) → IsGenerate words m p → IsGenerate words n q → (m ≡ n) × (p ≡ q)
one_generate words m n p q h k = same_generate m n p q (one_asked words (generate m p) (generate n q) h k)

-- which is that of some sessions, and of few
pub some_sessions : (words : List (List ℕ)) (seed count : ℕ) → IsGenerate words seed count → (1 ≤ count) × (count ≤ most_sessions)
some_sessions words seed count is = (is.within.1, is.within.2)

-- and one file and one moment
pub one_offer : (words : List (List ℕ)) (m n : ℕ) (a b : List ℕ) → IsOffer words a m → IsOffer words b n → (a ≡ b) × (m ≡ n)
one_offer words m n a b h k = same_offer m n a b (one_asked words (offer a m) (offer b n) h k)

-- and one file and one identifier
pub one_services : (words : List (List ℕ)) (m n : ℕ) (a b : List ℕ) → IsServices words a m → IsServices words b n → (a ≡ b) × (m ≡ n)
one_services words m n a b h k = same_services m n a b (one_asked words (services a m) (services b n) h k)

-- and one want and one payload
pub one_pick : (words : List (List ℕ)) (a b p q : List ℕ) → IsPick words a p → IsPick words b q → (a ≡ b) × (p ≡ q)
one_pick words a b p q h k = same_pick a b p q (one_asked words (pick a p) (pick b q) h k)
