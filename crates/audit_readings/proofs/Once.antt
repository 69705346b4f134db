-- A stream has one list of words, and so it can be told whether PowerDelivery Start is the first without a reply.
use Rattle.std.proofs.Common.{◌≡◌, ℕ, ◌∙◌, sym, ap, subst, refl, drop, Bool, true, false, List, [], ◌∷◌, ◌++◌, length, Option, Some, None, Result, Err, inl, inr, ◌⊎◌}
use Rattle.charge_world.specs.declared.offer.Dialect.{Dialect}
use Rattle.session_words.specs.declared.plan.PostPlan.{PostPlan}
use Rattle.session_words.specs.declared.plan.SitePlan.{SitePlan}
use Rattle.session_words.specs.declared.word.Request.{Request}
use Rattle.v2gtp_frames.specs.declared.FrameFault.{FrameFault}
use Rattle.v2gtp_frames.specs.Reading.{whole_at, behind_frames}
use Rattle.v2gtp_frames.proofs.Ends.{is_fault}
use Rattle.v2gtp_frames.proofs.Same.{one_reading, last_rest}
use Rattle.post_spec.specs.Codecs.{Judged, Negotiated, Asked, WrongSide, Refused, Codecs}
use Rattle.post_spec.specs.Kinds.{asks_start}
use Rattle.post_spec.specs.Sessions.{session, stream, replies}
use Rattle.post_spec.specs.Spelled.{AreDetermined}
use Rattle.post_spec.specs.Steps.{Seen}
use Rattle.post_spec.specs.Words.{HeardWord, Payload, Fault, AreRead, AreJudged, EndsSo, Words, chosen_by}
use Rattle.told_pasts.specs.Spelling.{ToldCodecs}
use Rattle.told_pasts.specs.Steps.{ToldStep, seen_in}
use Rattle.audit_mandates.specs.Laws.{TellsStarts}
use Rattle.audit_mandates.specs.Values.{Starts}
use Rattle.audit_streams.specs.declared.streams.Speech.TheVariants.{First}
use Rattle.audit_streams.specs.Words.{JudgesFirst, JudgesLater}
use Rattle.audit_streams.proofs.Left.{same_judged, words_left, left_all}

abbrev wrong : FrameFault → Result (Option ℕ) FrameFault
wrong fault = Err fault

wrong_fault : (fault : FrameFault) (rest : List ℕ) (other : FrameFault) → whole_at rest ≡ Err fault → whole_at rest ≡ Err other → fault ≡ other
wrong_fault fault rest other a b = let x : wrong fault ≡ wrong other = sym a ∙ b in cc

ends_once : (rest : List ℕ) (a b : List HeardWord) → EndsSo rest a → EndsSo rest b → a ≡ b
ends_once rest [] [] e f = refl
ends_once rest [] (Payload j ∷ ws) e f = absurd f
ends_once rest [] (Fault fault ∷ []) e f = absurd (e fault f)
ends_once rest [] (Fault fault ∷ (w ∷ ws)) e f = absurd f
ends_once rest (Payload j ∷ ws) b e f = absurd e
ends_once rest (Fault fault ∷ (w ∷ ws)) b e f = absurd e
ends_once rest (Fault fault ∷ []) [] e f = absurd (f fault e)
ends_once rest (Fault fault ∷ []) (Payload j ∷ ws) e f = absurd f
ends_once rest (Fault fault ∷ []) (Fault other ∷ []) e f = ap (λ (x : FrameFault). Fault x ∷ []) (wrong_fault fault rest other (is_fault rest fault e) (is_fault rest other f))
ends_once rest (Fault fault ∷ []) (Fault other ∷ (w ∷ ws)) e f = absurd f

both : (i j : Judged) (a b : List HeardWord) → i ≡ j → a ≡ b → Payload i ∷ a ≡ Payload j ∷ b
both i j a b e f = cc

read_once : (c : Codecs) (offers : List Dialect) (chosen : Option Dialect) (ps : List (List ℕ)) (a b : List HeardWord) → AreDetermined c → AreRead c offers chosen ps a → AreRead c offers chosen ps b → a ≡ b
read_once c offers None ps a b det e f = e ∙ sym f
read_once c offers (Some d) [] a b det e f = e ∙ sym f
read_once c offers (Some d) (p ∷ ps) [] b det e f = absurd e
read_once c offers (Some d) (p ∷ ps) (Fault fault ∷ a) b det e f = absurd e
read_once c offers (Some d) (p ∷ ps) (Payload i ∷ a) [] det e f = absurd f
read_once c offers (Some d) (p ∷ ps) (Payload i ∷ a) (Fault fault ∷ b) det e f = absurd f
read_once c offers (Some d) (p ∷ ps) (Payload i ∷ a) (Payload j ∷ b) det e f =
    both i j a b (same_judged c offers (Some d) p i j det e.0 f.0) (read_once c offers (Some d) ps a b det e.1 f.1)

judged_once : (c : Codecs) (offers : List Dialect) (ps : List (List ℕ)) (a b : List HeardWord) → AreDetermined c → AreJudged c offers ps a → AreJudged c offers ps b → a ≡ b
judged_once c offers [] a b det e f = e ∙ sym f
judged_once c offers (p ∷ ps) [] b det e f = absurd e
judged_once c offers (p ∷ ps) (Fault fault ∷ a) b det e f = absurd e
judged_once c offers (p ∷ ps) (Payload i ∷ a) [] det e f = absurd f
judged_once c offers (p ∷ ps) (Payload i ∷ a) (Fault fault ∷ b) det e f = absurd f
judged_once c offers (p ∷ ps) (Payload i ∷ a) (Payload j ∷ b) det e f =
    let same : i ≡ j = same_judged c offers None p i j det e.0 f.0 in
    both i j a b same (read_once c offers (chosen_by j) ps a b det (subst (λ (x : Judged). AreRead c offers (chosen_by x) ps a) same e.1) f.1)

pub words_once : (c : Codecs) (offers : List Dialect) (bytes : List ℕ) (a b : List HeardWord) → AreDetermined c → Words c offers bytes a → Words c offers bytes b → a ≡ b
words_once c offers bytes a b det e f =
    let payloads : e.payloads ≡ f.payloads = one_reading bytes e.rest f.rest e.payloads f.payloads e.frames f.frames in
    let rest : e.rest ≡ f.rest = sym (last_rest bytes e.payloads e.rest e.frames) ∙ ap (λ (ps : List (List ℕ)). behind_frames (length ps) bytes) payloads ∙ last_rest bytes f.payloads f.rest f.frames in
    let front : e.front ≡ f.front = judged_once c offers f.payloads e.front f.front det (subst (λ (ps : List (List ℕ)). AreJudged c offers ps e.front) payloads e.judged) f.judged in
    let behind : e.behind ≡ f.behind = ends_once f.rest e.behind f.behind (subst (λ (r : List ℕ). EndsSo r e.behind) rest e.ends) f.ends in
    e.words_are ∙ ap (λ (ws : List HeardWord). ws ++ e.behind) front ∙ ap (λ (ws : List HeardWord). f.front ++ ws) behind ∙ sym f.words_are

-- whether the first word without a reply is a Start

first_is : (c : ToldCodecs) (plan : PostPlan) (steps : List ToldStep) (es : List Seen) (words : List HeardWord) → AreDetermined c.words → session (seen_in steps) ≡ Some es → Words c.words plan.dialects.items (stream es) words → (s : Starts c plan steps) → drop (length (replies es)) words ≡ Payload (Asked s.request) ∷ s.unanswered.rest
first_is c plan steps es words det e are s =
    let x : Some s.unanswered.es ≡ Some es = sym s.unanswered.hearing.session_is ∙ e in
    let same : s.unanswered.es ≡ es = cc in
    let one = words_once c.words plan.dialects.items (stream es) words s.words det are (subst (λ (zs : List Seen). Words c.words plan.dialects.items (stream zs) s.words) same s.unanswered.hearing.words_are) in
    ap (λ (ws : List HeardWord). drop (length (replies es)) ws) one ∙ ap (λ (zs : List Seen). drop (length (replies zs)) s.words) (sym same) ∙ s.unanswered.first

none_first : (word : HeardWord) (rest : List HeardWord) → [] ≡ word ∷ rest → ⊥
none_first word rest e = cc

other_first : (a b : HeardWord) (xs ys : List HeardWord) → a ∷ xs ≡ b ∷ ys → a ≡ b
other_first a b xs ys e = cc

true_false : (b : Bool) → b ≡ true → b ≡ false → ⊥
true_false true h k = absurd (cc)
true_false false h k = absurd (cc)

by_start : (c : ToldCodecs) (plan : PostPlan) (steps : List ToldStep) (es : List Seen) (words rest : List HeardWord) (request : Request) (b : Bool) → AreDetermined c.words → session (seen_in steps) ≡ Some es → Words c.words plan.dialects.items (stream es) words
    → drop (length (replies es)) words ≡ Payload (Asked request) ∷ rest → asks_start request.ask ≡ b → Starts c plan steps ⊎ (Starts c plan steps → ⊥)
by_start c plan steps es words rest request true det e are d is = inl (record { words = words; request = request; unanswered = record { es = es; hearing = record { session_is = e; words_are = are }; rest = rest; first = d }; start = is })
by_start c plan steps es words rest request false det e are d is = inr (λ s.
    let x : Payload (Asked request) ≡ Payload (Asked s.request) = other_first (Payload (Asked request)) (Payload (Asked s.request)) rest s.unanswered.rest (sym d ∙ first_is c plan steps es words det e are s) in
    let y : request ≡ s.request = cc in
    true_false (asks_start s.request.ask) s.start (ap (λ (r : Request). asks_start r.ask) (sym y) ∙ is))

by_word : (c : ToldCodecs) (plan : PostPlan) (steps : List ToldStep) (es : List Seen) (words left : List HeardWord) → AreDetermined c.words → session (seen_in steps) ≡ Some es → Words c.words plan.dialects.items (stream es) words → drop (length (replies es)) words ≡ left
    → Starts c plan steps ⊎ (Starts c plan steps → ⊥)
by_word c plan steps es words [] det e are d = inr (λ s. none_first (Payload (Asked s.request)) s.unanswered.rest (sym d ∙ first_is c plan steps es words det e are s))
by_word c plan steps es words (Fault fault ∷ rest) det e are d = inr (λ s.
    let x : Fault fault ≡ Payload (Asked s.request) = other_first (Fault fault) (Payload (Asked s.request)) rest s.unanswered.rest (sym d ∙ first_is c plan steps es words det e are s) in absurd (cc))
by_word c plan steps es words (Payload (Negotiated chosen own) ∷ rest) det e are d = inr (λ s.
    let x : Payload (Negotiated chosen own) ≡ Payload (Asked s.request) = other_first (Payload (Negotiated chosen own)) (Payload (Asked s.request)) rest s.unanswered.rest (sym d ∙ first_is c plan steps es words det e are s) in absurd (cc))
by_word c plan steps es words (Payload (Asked request) ∷ rest) det e are d = by_start c plan steps es words rest request (asks_start request.ask) det e are d refl
by_word c plan steps es words (Payload WrongSide ∷ rest) det e are d = inr (λ s.
    let x : Payload WrongSide ≡ Payload (Asked s.request) = other_first (Payload WrongSide) (Payload (Asked s.request)) rest s.unanswered.rest (sym d ∙ first_is c plan steps es words det e are s) in absurd (cc))
by_word c plan steps es words (Payload Refused ∷ rest) det e are d = inr (λ s.
    let x : Payload Refused ≡ Payload (Asked s.request) = other_first (Payload Refused) (Payload (Asked s.request)) rest s.unanswered.rest (sym d ∙ first_is c plan steps es words det e are s) in absurd (cc))

by_session : (c : ToldCodecs) (plan : PostPlan) (steps : List ToldStep) (lives : Option (List Seen)) → AreDetermined c.words → JudgesFirst c.words.Negotiates → JudgesLater c.words.Reads → session (seen_in steps) ≡ lives → Starts c plan steps ⊎ (Starts c plan steps → ⊥)
by_session c plan steps None det first all e = inr (λ s. let x : None ≡ Some s.unanswered.es = sym e ∙ s.unanswered.hearing.session_is in absurd (cc))
by_session c plan steps (Some es) det first all e =
    let l = words_left c.words plan.dialects.items First (stream es) first all in
    by_word c plan steps es l.0 (drop (length (replies es)) l.0) det e (left_all c.words plan.dialects.items (stream es) l.0 l.1) refl

pub starts_told : (c : ToldCodecs) → AreDetermined c.words → JudgesFirst c.words.Negotiates → JudgesLater c.words.Reads → (site : SitePlan) → TellsStarts c site
starts_told c det first all site past k post is = by_session c post.plan post.steps (session (seen_in post.steps)) det first all refl
