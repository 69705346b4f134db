-- The first fault of a trace, line by line.
use Rattle.std.proofs.Common.{◌≡◌, ◌⊎◌, inl, inr, ◌<◌, ℕ, suc, ◌+◌, ◌-◌, ◌^◌, ◌==◌, min, Bool, true, false, List, [], ◌∷◌, ◌++◌, length, Option, Some, None, refl, sym, ap, subst, ◌∙◌, arith, append_assoc}
use Rattle.std.specs.Prelude.{nat_le, MatchOption}
use Rattle.std.specs.List.{list_any}
use Rattle.std.proofs.lemmas.Bool.{eqb-true, eqb-false, leb-true, leb-false}
use Rattle.std.proofs.lemmas.List.{length-append}
use Rattle.charge_world.specs.declared.entry.Entry.{Entry}
use Rattle.charge_world.specs.declared.entry.Entry.TheVariants as entry
use Rattle.session_words.specs.declared.plan.PostPlan.{PostPlan}
use Rattle.session_words.specs.declared.plan.SitePlan.{SitePlan}
use Rattle.post_spec.specs.Steps.{Seen, seen}
use Rattle.told_pasts.specs.Checks.{is_heard, IsNewest, HearingFollows, AnswersNothing}
use Rattle.told_pasts.specs.Faults.{FailsAt, Check9, Check10, IsEarlier, IsFirstFault, IsFaultless}
use Rattle.told_pasts.specs.Reading.{IsNext}
use Rattle.told_pasts.specs.Site.{ToldPost, ArePosts}
use Rattle.told_pasts.specs.Spelling.{ToldCodecs}
use Rattle.told_pasts.specs.Steps.{seen_in}
use Rattle.audit_streams.specs.Streams.{NoneIsNext}
use Rattle.audited_posts.specs.Posts.{IsFree}
use Rattle.trace_audit.specs.Auditing.{Follows, PassesBefore, IsClean, capped, IsFound, IsOfPost, no_verdict, IsJudgedPast}
use Rattle.trace_audit.specs.Seats.{IsAt, AreSeated, AreEven}
use Rattle.trace_audit.specs.Verdicts.{IsLeastOf, IsLeast, GoesOn, IsVerdict, fault_before}
use Rattle.trace_audit.specs.declared.seats.Seat.{Seat}
use Rattle.trace_audit.specs.declared.verdicts.Finding.{Finding}
use Rattle.trace_audit.specs.declared.verdicts.Verdict.{Verdict}
use Rattle.trace_audit.proofs.Entries.{no_session}
use Rattle.trace_audit.proofs.Lists.{at_of}
use Rattle.trace_audit.proofs.Posts.{post_of}

differ : false ≡ true → ⊥
differ h = cc

-- ---- what follows

last_of : (a b : List Entry) (x y : Entry) → a ++ x ∷ [] ≡ b ++ y ∷ [] → (a ≡ b) × (x ≡ y)
last_of [] [] x y e = (refl, (let h : x ∷ [] ≡ y ∷ [] = e in cc))
last_of [] (b ∷ bs) x y e =
    let l : length (bs ++ y ∷ []) ≡ 0 = (let h : x ∷ [] ≡ b ∷ (bs ++ y ∷ []) = e in let t : bs ++ y ∷ [] ≡ [] = cc in ap length t) in
    absurd (let n = length-append bs (y ∷ []) in omega (arith, l, n))
last_of (a ∷ ls) [] x y e =
    let l : length (ls ++ x ∷ []) ≡ 0 = (let h : a ∷ (ls ++ x ∷ []) ≡ y ∷ [] = e in let t : ls ++ x ∷ [] ≡ [] = cc in ap length t) in
    absurd (let n = length-append ls (x ∷ []) in omega (arith, l, n))
last_of (a ∷ ls) (b ∷ bs) x y e =
    let h : a ∷ (ls ++ x ∷ []) ≡ b ∷ (bs ++ y ∷ []) = e in
    let first : a ≡ b = cc in
    let t : ls ++ x ∷ [] ≡ bs ++ y ∷ [] = cc in
    let rest = last_of ls bs x y t in
    (ap (λ (z : Entry). z ∷ ls) first ∙ ap (λ (zs : List Entry). b ∷ zs) rest.0, rest.1)

some_behind : (x : Entry) (behind : List Entry) → Follows x behind → IsNewest behind → ⊥
some_behind x behind f none = let l : length (f.0 ++ x ∷ []) ≡ 0 = ap length (sym f.1 ∙ none) in let n = length-append f.0 (x ∷ []) in omega (arith, l, n)

abbrev is_hearing : Entry → Type 0
is_hearing (entry.Heard heard bytes) = Unit {0}
is_hearing other = ⊥

no_hearing : (x : Entry) (behind : List Entry) → Follows x behind → (is_hearing x → ⊥) → HearingFollows behind → ⊥
no_hearing x behind f none (newer, heard, bytes, is) =
    let same = last_of f.0 newer x (entry.Heard heard bytes) (sym f.1 ∙ is) in
    none (subst is_hearing (sym same.1) tt)

goes_behind : (x : Entry) (behind : List Entry) → (is_hearing x → ⊥) → Follows x behind → GoesOn behind
goes_behind x behind none f = (some_behind x behind f, no_hearing x behind f none)

-- the verdict where this entry follows
pub follows_told : (c : ToldCodecs) (site : SitePlan) (earlier : List Entry) (e x : Entry) (v : Verdict) → IsVerdict c site earlier e v → (behind : List Entry) → Follows x behind → IsLeast c site earlier e behind (fault_before v x)
follows_told c site earlier e (entry.Heard heard bytes) v is behind f = is.hears behind (f.0, heard, bytes, f.1)
follows_told c site earlier e entry.Lost v is behind f = is.goes_on behind (goes_behind entry.Lost behind (λ h. h) f)
follows_told c site earlier e (entry.Sent post bytes taken) v is behind f = is.goes_on behind (goes_behind (entry.Sent post bytes taken) behind (λ h. h) f)
follows_told c site earlier e (entry.Answered post bytes taken) v is behind f = is.goes_on behind (goes_behind (entry.Answered post bytes taken) behind (λ h. h) f)
follows_told c site earlier e (entry.Drove post given taken) v is behind f = is.goes_on behind (goes_behind (entry.Drove post given taken) behind (λ h. h) f)
follows_told c site earlier e (entry.Dialed port taken) v is behind f = is.goes_on behind (goes_behind (entry.Dialed port taken) behind (λ h. h) f)
follows_told c site earlier e (entry.Ended post cause) v is behind f = is.goes_on behind (goes_behind (entry.Ended post cause) behind (λ h. h) f)

pub none_fails : (c : ToldCodecs) (site : SitePlan) (earlier : List Entry) (e x : Entry) (v : Verdict) → IsVerdict c site earlier e v → fault_before v x ≡ None → PassesBefore c site earlier e x
none_fails c site earlier e x v is none behind n f fails =
    let told : IsLeast c site earlier e behind None = subst (IsLeast c site earlier e behind) none (follows_told c site earlier e x v is behind f) in
    told n fails

pub some_fails : (c : ToldCodecs) (site : SitePlan) (earlier : List Entry) (e x : Entry) (v : Verdict) (n : Finding) → IsVerdict c site earlier e v → fault_before v x ≡ Some n
    → (behind : List Entry) → Follows x behind → IsLeastOf c site earlier e behind n.check n.post
some_fails c site earlier e x v n is some behind f = subst (IsLeast c site earlier e behind) some (follows_told c site earlier e x v is behind f)

-- ---- before an entry at which nothing failed so far

alone_follows : (x : Entry) → Follows x (x ∷ [])
alone_follows x = ([], refl)

pub still_even : (c : ToldCodecs) (site : SitePlan) (earlier : List Entry) (e x : Entry) (seats : List Seat) → PassesBefore c site earlier e x → ((AnswersNothing c site earlier e → ⊥) → AreEven seats) → AreEven seats
still_even c site earlier e x seats none even = even (λ a. none (x ∷ []) 9 (alone_follows x) (Check9 a))

no_word : (c : ToldCodecs) (plan : PostPlan) (k : ℕ) (past : List Entry) → list_any is_heard past ≡ false → NoneIsNext c.words plan.dialects.items (seen k past)
no_word c plan k past none word next = let s : None ≡ Some next.es = sym (no_session k past none) ∙ next.hearing.session_is in absurd (cc)

told_begun : (P : Type 0) (b : Bool) → (b ≡ true → P) → (b ≡ false → P) → P
told_begun P true f g = f refl
told_begun P false f g = g refl

word_free : (c : ToldCodecs) (site : SitePlan) (earlier : List Entry) (e x : Entry) (posts : List ToldPost) (i : ℕ) (p : ToldPost) → is_hearing x → ArePosts c site (e ∷ earlier) posts → IsAt posts i p
    → seen_in p.steps ≡ seen (i + 1) (e ∷ earlier) → PassesBefore c site earlier e x → NoneIsNext c.words p.plan.dialects.items (seen (i + 1) (e ∷ earlier))
word_free c site earlier e (entry.Heard heard bytes) posts i p hears are h seen_is none =
    told_begun (NoneIsNext c.words p.plan.dialects.items (seen (i + 1) (e ∷ earlier))) (list_any is_heard (e ∷ earlier))
    (λ begun word next. none (entry.Heard heard bytes ∷ []) 10 ([], refl) (Check10 (record {
      ends = record { begun = begun; follows = inr ([], heard, bytes, refl) };
      k = i + 1;
      post = p;
      is = post_of c site (e ∷ earlier) posts i p are h;
      word = word;
      next = subst (λ (xs : List Seen). IsNext c.words p.plan.dialects.items xs word) (sym seen_is) next;
    })))
    (λ begun. no_word c p.plan (i + 1) (e ∷ earlier) begun)
word_free c site earlier e entry.Lost posts i p hears are h seen_is none = absurd hears
word_free c site earlier e (entry.Sent k bytes taken) posts i p hears are h seen_is none = absurd hears
word_free c site earlier e (entry.Answered k bytes taken) posts i p hears are h seen_is none = absurd hears
word_free c site earlier e (entry.Drove k given taken) posts i p hears are h seen_is none = absurd hears
word_free c site earlier e (entry.Dialed port taken) posts i p hears are h seen_is none = absurd hears
word_free c site earlier e (entry.Ended k cause) posts i p hears are h seen_is none = absurd hears

free_by : (c : ToldCodecs) (plan : PostPlan) (k : ℕ) (past : List Entry) (x : Entry) → (is_hearing x → NoneIsNext c.words plan.dialects.items (seen k past)) → IsFree c plan k past x
free_by c plan k past (entry.Heard heard bytes) f = f tt
free_by c plan k past entry.Lost f = tt
free_by c plan k past (entry.Sent post bytes taken) f = tt
free_by c plan k past (entry.Answered post bytes taken) f = tt
free_by c plan k past (entry.Drove post given taken) f = tt
free_by c plan k past (entry.Dialed port taken) f = tt
free_by c plan k past (entry.Ended post cause) f = tt

-- what was judged says so much before an entry that isn't refused
pub even_before : (c : ToldCodecs) (site : SitePlan) (past : List Entry) (x : Entry) (v : Verdict) (seats : List Seat) → IsJudgedPast c site past v seats → fault_before v x ≡ None → AreEven seats
even_before c site [] x v seats j none = j.1
even_before c site (e ∷ earlier) x v seats j none = still_even c site earlier e x seats (none_fails c site earlier e x v j.0 none) j.1

pub free_before : (c : ToldCodecs) (site : SitePlan) (past : List Entry) (x : Entry) (v : Verdict) (posts : List ToldPost) (seats : List Seat) → AreSeated c site past posts seats → IsJudgedPast c site past v seats → fault_before v x ≡ None
    → (i : ℕ) (p : ToldPost) → IsAt posts i p → IsFree c p.plan (i + 1) past x
free_before c site [] x v posts seats s j none i p h = free_by c p.plan (i + 1) [] x (λ hears. no_word c p.plan (i + 1) [] refl)
free_before c site (e ∷ earlier) x v posts seats s j none i p h = free_by c p.plan (i + 1) (e ∷ earlier) x (λ hears.
    let seat = at_of seats i (let n = s.count in let less = h.0 in omega (arith, n, less)) in
    word_free c site earlier e x posts i p hears s.posts_are h (s.each i p seat.0 h seat.1).are.kept_are.seen_is (none_fails c site earlier e x v j.0 none))

pub clean_next : (c : ToldCodecs) (site : SitePlan) (past : List Entry) (x : Entry) (v : Verdict) (seats : List Seat) → IsJudgedPast c site past v seats → IsClean c site past → fault_before v x ≡ None → IsClean c site (x ∷ past)
clean_next c site [] x v seats j clean none = tt
clean_next c site (e ∷ earlier) x v seats j clean none = (none_fails c site earlier e x v j.0 none, clean)

-- ---- a fault that is found

none_at : (x : Entry) (n : Finding) → fault_before no_verdict x ≡ Some n → ⊥
none_at (entry.Heard heard bytes) n is = absurd (let h : None ≡ Some n = is in cc)
none_at entry.Lost n is = absurd (let h : None ≡ Some n = is in cc)
none_at (entry.Sent post bytes taken) n is = absurd (let h : None ≡ Some n = is in cc)
none_at (entry.Answered post bytes taken) n is = absurd (let h : None ≡ Some n = is in cc)
none_at (entry.Drove post given taken) n is = absurd (let h : None ≡ Some n = is in cc)
none_at (entry.Dialed port taken) n is = absurd (let h : None ≡ Some n = is in cc)
none_at (entry.Ended post cause) n is = absurd (let h : None ≡ Some n = is in cc)

pub found_now : (c : ToldCodecs) (site : SitePlan) (past : List Entry) (x : Entry) (v : Verdict) (seats : List Seat) (line : ℕ) (n : Finding) → IsJudgedPast c site past v seats → IsClean c site past → line ≡ capped (length past + 1) → fault_before v x ≡ Some n
    → IsFound c site (x ∷ past) line n.check n.post
found_now c site [] x v seats line n j clean line_is some = absurd (none_at x n (subst (λ (w : Verdict). fault_before w x ≡ Some n) j.0 some))
found_now c site (e ∷ earlier) x v seats line n j clean line_is some = record {
  newer = [];
  x = x;
  e = e;
  earlier = earlier;
  past_is = refl;
  line_is = line_is ∙ ap capped (let l : length (e ∷ earlier) ≡ suc (length earlier) = refl in let m : length (e ∷ earlier) + 1 ≡ length earlier + 2 = omega (arith, l) in m);
  fails = some_fails c site earlier e x v n j.0 some;
  clean = clean;
}

pub found_still : (c : ToldCodecs) (site : SitePlan) (past : List Entry) (y : Entry) (line n k : ℕ) → IsFound c site past line n k → IsFound c site (y ∷ past) line n k
found_still c site past y line n k f = record {
  newer = y ∷ f.newer;
  x = f.x;
  e = f.e;
  earlier = f.earlier;
  past_is = ap (λ (es : List Entry). y ∷ es) f.past_is;
  line_is = f.line_is;
  fails = f.fails;
  clean = f.clean;
}

pub line_next : (line n : ℕ) → line ≡ capped (n + 1) → min (line + 1) (2 ^ 64 - 1) ≡ capped (suc n + 1)
line_next line n is = omega (arith, is)

-- ---- the end

heads : (a b : Entry) (xs ys : List Entry) → a ∷ xs ≡ b ∷ ys → (a ≡ b) × (xs ≡ ys)
heads a b xs ys e = (cc, cc)

-- two ways to cut a past behind an entry with as much before it
cut_once : (n m : List Entry) (x y : Entry) (a b : List Entry) → n ++ x ∷ a ≡ m ++ y ∷ b → length a ≡ length b → (n ≡ m) × (x ≡ y) × (a ≡ b)
cut_once [] [] x y a b e same = let h = heads x y a b e in (refl, h.0, h.1)
cut_once [] (z ∷ m) x y a b e same =
    let h = heads x z a (m ++ y ∷ b) e in
    let l = ap length h.1 in
    let k = length-append m (y ∷ b) in
    let j : length (y ∷ b) ≡ suc (length b) = refl in
    absurd (omega (arith, l, k, j, same))
cut_once (z ∷ n) [] x y a b e same =
    let h = heads z y (n ++ x ∷ a) b e in
    let l = ap length h.1 in
    let k = length-append n (x ∷ a) in
    let j : length (x ∷ a) ≡ suc (length a) = refl in
    absurd (omega (arith, l, k, j, same))
cut_once (z ∷ n) (w ∷ m) x y a b e same =
    let h = heads z w (n ++ x ∷ a) (m ++ y ∷ b) e in
    let rest = cut_once n m x y a b h.1 same in
    (ap (λ (u : Entry). u ∷ n) h.0 ∙ ap (λ (us : List Entry). w ∷ us) rest.0, rest.1, rest.2)

by_equal : (P : Type 0) (a b : ℕ) (t : Bool) → (a == b) ≡ t → (a ≡ b → P) → ((a ≡ b → ⊥) → P) → P
by_equal P a b true is f g = f (eqb-true a b is)
by_equal P a b false is f g = g (eqb-false a b is)

less_by : (a b : ℕ) (t : Bool) → nat_le b a ≡ t → (a ≡ b → ⊥) → (a < b) ⊎ (b < a)
less_by a b true is apart = inr (let l = leb-true b a is in omega (arith, l, apart))
less_by a b false is apart = inl (let l = leb-false b a is in omega (arith, l))

split_less : (a b : ℕ) → (a ≡ b → ⊥) → (a < b) ⊎ (b < a)
split_less a b apart = less_by a b (nat_le b a) refl apart

by_less : (P : Type 0) (a b : ℕ) → (a ≡ b → ⊥) → (a < b → P) → (b < a → P) → P
by_less P a b apart f g = elim (split_less a b apart) [ inl less ↦ f less | inr more ↦ g more ]

snoc_cut : (n : List Entry) (x : Entry) (a : List Entry) → n ++ x ∷ a ≡ (n ++ x ∷ []) ++ a
snoc_cut n x a = sym (append_assoc n (x ∷ []) a)

-- no check fails at a line with something behind it in a clean part
clean_at : (c : ToldCodecs) (site : SitePlan) (p newer behind earlier : List Entry) (e : Entry) (n : ℕ) → IsClean c site p → newer ++ p ≡ behind ++ e ∷ earlier → length earlier + 1 < length p → FailsAt c site earlier e behind n → ⊥
clean_at c site [] newer behind earlier e n clean is less fails = omega (arith, less)
clean_at c site (x ∷ []) newer behind earlier e n clean is less fails = let l : length (x ∷ []) ≡ 1 = refl in omega (arith, less, l)
clean_at c site (x ∷ (d ∷ rest)) newer behind earlier e n clean is less fails =
    by_equal ⊥ (length earlier) (length rest) (length earlier == length rest) refl
    (λ same.
    let cut = cut_once (newer ++ x ∷ []) behind d e rest earlier (append_assoc newer (x ∷ []) (d ∷ rest) ∙ is) (sym same) in
    clean.0 behind n (newer, sym cut.0)
    (subst (λ (z : Entry). FailsAt c site rest z behind n) (sym cut.1) (subst (λ (zs : List Entry). FailsAt c site zs e behind n) (sym cut.2) fails)))
    (λ apart.
    let l : length (x ∷ (d ∷ rest)) ≡ suc (suc (length rest)) = refl in
    let m : length (d ∷ rest) ≡ suc (length rest) = refl in
    clean_at c site (d ∷ rest) (newer ++ x ∷ []) behind earlier e n clean.1 (append_assoc newer (x ∷ []) (d ∷ rest) ∙ is) (let fewer : length earlier < length rest = omega (arith, less, l, apart) in omega (arith, fewer, m)) fails)

long : (past newer : List Entry) (x : Entry) (earlier : List Entry) → past ≡ newer ++ x ∷ earlier → length earlier < length past
long past newer x earlier is =
    let l = ap length is in
    let k = length-append newer (x ∷ earlier) in
    let j : length (x ∷ earlier) ≡ suc (length earlier) = refl in
    omega (arith, l, k, j)

-- the first fault, and its post
abbrev pub IsFirstOfPost : ToldCodecs → SitePlan → List Entry → ℕ → ℕ → ℕ → Type 0
IsFirstOfPost c site past line n k = IsFirstFault c site past line n × IsOfPost c site past line n k

-- the fault of a line that is decided, or of the newest, is the first one, where the part before it is clean
first_by : (c : ToldCodecs) (site : SitePlan) (past behind earlier : List Entry) (e : Entry) (line n k : ℕ) → past ≡ behind ++ e ∷ earlier → line ≡ length earlier + 2 → IsClean c site (e ∷ earlier) → IsLeastOf c site earlier e behind n k
    → IsFirstFault c site past line n
first_by c site past behind earlier e line n k is line_is clean least = record {
  is = record { behind = behind; e = e; earlier = earlier; past_is = is; line_is = line_is; fails = least.is };
  first = λ other_line m f.
      by_equal (IsEarlier line n other_line m) (length f.earlier) (length earlier) (length f.earlier == length earlier) refl
      (λ same.
      let cut = cut_once f.behind behind f.e e f.earlier earlier (sym f.past_is ∙ is) same in
      inr (
        line_is ∙ ap (λ (k : ℕ). k + 2) (sym same) ∙ sym f.line_is,
        least.least m
            (subst (λ (z : Entry). FailsAt c site earlier z behind m) cut.1 (subst (λ (zs : List Entry). FailsAt c site zs f.e behind m) cut.2 (subst (λ (zs : List Entry). FailsAt c site f.earlier f.e zs m) cut.0 f.fails))),
      ))
      (λ apart. by_less (IsEarlier line n other_line m) (length f.earlier) (length earlier) apart
      (λ less. absurd (clean_at c site (e ∷ earlier) behind f.behind f.earlier f.e m clean (sym is ∙ f.past_is) (let l : length (e ∷ earlier) ≡ suc (length earlier) = refl in omega (arith, less, l)) f.fails))
      (λ more. inl (let l = f.line_is in omega (arith, line_is, l, more))));
}

pub first_fault : (c : ToldCodecs) (site : SitePlan) (past behind earlier : List Entry) (e : Entry) (line n k : ℕ) → past ≡ behind ++ e ∷ earlier → line ≡ length earlier + 2 → IsClean c site (e ∷ earlier) → IsLeastOf c site earlier e behind n k
    → IsFirstOfPost c site past line n k
first_fault c site past behind earlier e line n k is line_is clean least = (
  first_by c site past behind earlier e line n k is line_is clean least,
  record {
    behind = behind;
    e = e;
    earlier = earlier;
    past_is = is;
    line_is = line_is;
    first = least.post;
  },
)

pub found_first : (c : ToldCodecs) (site : SitePlan) (past : List Entry) (line n k : ℕ) → length past < 2 ^ 64 - 2 → IsFound c site past line n k → IsFirstOfPost c site past line n k
found_first c site past line n k short f =
    let is : past ≡ (f.newer ++ f.x ∷ []) ++ f.e ∷ f.earlier = f.past_is ∙ snoc_cut f.newer f.x (f.e ∷ f.earlier) in
    let l = long past (f.newer ++ f.x ∷ []) f.e f.earlier is in
    let line_is = f.line_is in
    first_fault c site past (f.newer ++ f.x ∷ []) f.earlier f.e line n k is (omega (arith, line_is, l, short)) f.clean (f.fails (f.newer ++ f.x ∷ []) (f.newer, refl))

pub newest_first : (c : ToldCodecs) (site : SitePlan) (past : List Entry) (v : Verdict) (seats : List Seat) (line : ℕ) (n : Finding) → length past < 2 ^ 64 - 2 → IsJudgedPast c site past v seats → IsClean c site past → line ≡ capped (length past + 1) → v.ends ≡ Some n
    → IsFirstOfPost c site past line n.check n.post
newest_first c site [] v seats line n short j clean line_is some = absurd (let x : None ≡ Some n = sym (ap (λ (w : Verdict). w.ends) j.0) ∙ some in cc)
newest_first c site (e ∷ earlier) v seats line n short j clean line_is some =
    first_fault c site (e ∷ earlier) [] earlier e line n.check n.post refl (let l : length (e ∷ earlier) ≡ suc (length earlier) = refl in omega (arith, line_is, short, l)) clean
    (subst (IsLeast c site earlier e []) some (j.0.ends [] refl))

pub none_first : (c : ToldCodecs) (site : SitePlan) (past : List Entry) (v : Verdict) (seats : List Seat) → IsJudgedPast c site past v seats → IsClean c site past → v.ends ≡ None → IsFaultless c site past
none_first c site [] v seats j clean none line n f = let l = long [] f.behind f.e f.earlier f.past_is in omega (arith, l)
none_first c site (e ∷ earlier) v seats j clean none line n f =
    by_equal ⊥ (length f.earlier) (length earlier) (length f.earlier == length earlier) refl
    (λ same.
    let cut = cut_once f.behind [] f.e e f.earlier earlier (sym f.past_is) same in
    let told : IsLeast c site earlier e [] None = subst (IsLeast c site earlier e []) none (j.0.ends [] refl) in
    told n (subst (λ (z : Entry). FailsAt c site earlier z [] n) cut.1 (subst (λ (zs : List Entry). FailsAt c site zs f.e [] n) cut.2 (subst (λ (zs : List Entry). FailsAt c site f.earlier f.e zs n) cut.0 f.fails))))
    (λ apart.
    let l = long (e ∷ earlier) f.behind f.e f.earlier f.past_is in
    let m : length (e ∷ earlier) ≡ suc (length earlier) = refl in
    clean_at c site (e ∷ earlier) [] f.behind f.earlier f.e n clean f.past_is (let fewer : length f.earlier < length earlier = omega (arith, l, m, apart) in omega (arith, fewer, m)) f.fails)

-- ---- the auditor's fault, once it is known

pub open_of : {F : Type 0} (o : Option F) (A : Type 0) (P : F → Type 0) → o ≡ None → MatchOption o A P → A
open_of None A P is h = h
open_of (Some f) A P is h = absurd (let x : Some f ≡ None = is in cc)

pub open_with : {F : Type 0} (o : Option F) (A : Type 0) (P : F → Type 0) → o ≡ None → A → MatchOption o A P
open_with None A P is h = h
open_with (Some f) A P is h = absurd (let x : Some f ≡ None = is in cc)

pub fault_of : {F : Type 0} (o : Option F) (f : F) (A : Type 0) (P : F → Type 0) → o ≡ Some f → MatchOption o A P → P f
fault_of None f A P is h = absurd (let x : None ≡ Some f = is in cc)
fault_of (Some g) f A P is h = let same : g ≡ f = (let x : Some g ≡ Some f = is in cc) in subst P same h

pub fault_with : {F : Type 0} (o : Option F) (f : F) (A : Type 0) (P : F → Type 0) → o ≡ Some f → P f → MatchOption o A P
fault_with None f A P is h = absurd (let x : None ≡ Some f = is in cc)
fault_with (Some g) f A P is h = let same : f ≡ g = (let x : Some g ≡ Some f = is in cc) in subst P same h
