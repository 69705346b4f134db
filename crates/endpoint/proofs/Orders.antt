-- Closing orders that stand on entries.
use Rattle.std.proofs.Common.{◌≡◌, ℕ, Bool, List, [], ◌∷◌, ◌++◌, Option, Some, None, Result, Ok, Err, refl, sym, ap, ◌∙◌, append_assoc}
use Rattle.std.specs.List.{AllByRecursion}
use Rattle.charge_world.specs.declared.entry.Entry.{Entry}
use Rattle.charge_world.specs.declared.entry.Entry.TheVariants as entry
use Rattle.charge_world.specs.declared.ports.Order.TheVariants as order
use Rattle.endpoint.specs.Telling.{Carries, CarriesText, IsCutHere, IsCutText, HasClosing, IsClosing, IsClosedSo, IsWrittenSo}

-- ---- closing orders that stand on closing orders

all_closing : (xs ys : List Entry) → AllByRecursion IsClosing xs → AllByRecursion IsClosing ys → AllByRecursion IsClosing (xs ++ ys)
all_closing [] ys h k = k
all_closing (x ∷ xs) ys h k = (h.0, all_closing xs ys h.1 k)

closing_on : (blocks mid past : List Entry) → HasClosing blocks mid → HasClosing mid past → HasClosing blocks past
closing_on blocks mid past h k = record {
  later = k.later ++ h.later;
  past_is = k.past_is ∙ ap (λ (es : List Entry). k.later ++ es) h.past_is ∙ sym (append_assoc k.later h.later blocks);
  closing = all_closing k.later h.later k.closing h.closing;
}

-- over a call that gives closing orders alone
pub closing_more : (a b : Option (List Entry)) (blocks : List Entry) → ((mid : List Entry) → Carries a b (λ past. past ≡ mid) (HasClosing mid)) → Carries a b (HasClosing blocks) (HasClosing blocks)
closing_more a None blocks f = tt
closing_more None (Some new) blocks f = absurd (f [])
closing_more (Some old) (Some new) blocks f = λ h. closing_on blocks old new h (f old refl)

-- ---- no order, or one more

pub none_closing : (blocks past : List Entry) → past ≡ blocks → HasClosing blocks past
none_closing blocks past e = record { later = []; past_is = e; closing = tt }

pub one_closing : (blocks past : List Entry) (k : ℕ) (taken : Bool) → HasClosing blocks past → HasClosing blocks (entry.Drove k order.Open taken ∷ past)
one_closing blocks past k taken h = record {
  later = entry.Drove k order.Open taken ∷ h.later;
  past_is = ap (λ (p : List Entry). entry.Drove k order.Open taken ∷ p) h.past_is;
  closing = ((k, taken, refl), h.closing);
}

pub cut_behind : (blocks past : List Entry) (text : List ℕ) → HasClosing blocks past → IsCutHere blocks text → IsCutText past text
cut_behind blocks past text h c = record {
  later = h.later;
  e = c.e;
  earlier = c.earlier;
  front = c.front;
  rest = c.rest;
  past_is = h.past_is ∙ ap (λ (p : List Entry). h.later ++ p) c.past_is;
  closing = h.closing;
  line_is = c.line_is;
  text_is = c.text_is;
}

pub text_closing : (a b : Option (List Entry)) (s : Option (List ℕ)) → ((blocks : List Entry) → Carries a b (λ past. past ≡ blocks) (HasClosing blocks)) → CarriesText a b s s IsCutHere IsCutText
text_closing a None s f = tt
text_closing None (Some new) s f = absurd (f [])
text_closing (Some old) (Some new) None f = tt
text_closing (Some old) (Some new) (Some text) f = λ c. cut_behind old new text (f old refl) c

-- the line of the last order was written, or in part
pub closed_so : {T E : Type 0} (hearing : ℕ) (r : Result T E) (past : List Entry) (text : List ℕ) → IsWrittenSo hearing r past text → IsClosedSo hearing r past text
closed_so hearing (Ok done) past text h = h
closed_so hearing (Err fault) past text h = cut_behind past past text (none_closing past past refl) h
