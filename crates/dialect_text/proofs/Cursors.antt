-- Characters that are passed, and how what is taken at a cursor lies in what stands before it.
use Rattle.std.proofs.Common.{◌≡◌, ℕ, ◌<◌, ◌⊎◌, List, [], ◌∷◌, ◌++◌, refl, sym, ap, subst, ◌∙◌, append_assoc, arith}
use Rattle.std.specs.Prelude.{◌==◌}
use Rattle.std.specs.Str.{encode_utf8_all}
use Rattle.std.proofs.lemmas.List.{length-append}
use Rattle.std.proofs.lemmas.Str.{encode_ascii, encodes-append}
use Rattle.exi_schema.specs.Schemas.{PlainSchema}
use Rattle.exi_documents.specs.Trees.{Event}
use Rattle.value_text.specs.declared.cursor.TextCursor.{TextCursor}
use Rattle.value_text.specs.Forms.{NoneNext}
use Rattle.value_text.specs.Scanning.{Passes}
use Rattle.value_text.specs.declared.fault.ScanFault.{ScanFault}
use Rattle.value_text.specs.declared.fault.ScanFault.TheVariants as fault
use Rattle.value_text.proofs.FrontLaws.{passes_on}
use Rattle.value_text.proofs.PieceTexts.{char_fails}
use Rattle.dialect_text.specs.Dialect.{Standing, Adds}
use Rattle.dialect_text.specs.Languages.{Leads, Stalls, Completes}
use Rattle.dialect_text.specs.Following.{TakesNext, StallsAt}
use Rattle.dialect_text.proofs.Agreeing.{leads_then, stalls_after}

-- a character that isn't next
pub not_next : (c : ℕ) (text : List ℕ) → c < 128 → NoneNext (λ d. d == c) text → (rest : List ℕ) → text ≡ c ∷ rest → ⊥
not_next c text low none rest e = char_fails c c refl (none c rest (e ∙ ap (λ (bs : List ℕ). bs ++ rest) (sym (encode_ascii c low))))

-- ---- what is taken behind what is passed

pub takes_behind : (s : PlainSchema) (ahead : List ℕ) (K L : List ℕ → Type 0) (old new : Standing) (a b c : TextCursor) (event : Event) (front : List ℕ) → Passes a front b → Leads K front b.rest.now L →
    TakesNext s (ahead ++ encode_utf8_all front) L old b event new c → TakesNext s ahead K old a event new c
takes_behind s ahead K L old new a b c event front passes leads p = record {
  front = front ++ p.front;
  adds = subst (λ (bs : List ℕ). Adds s old event bs new)
      (append_assoc ahead (encode_utf8_all front) (encode_utf8_all p.front) ∙ ap (λ (bs : List ℕ). ahead ++ bs) (sym (encodes-append front p.front))) p.adds;
  passes = passes_on a b c front p.front passes p.passes;
  leads = leads_then K L (Completes s new) front p.front c.rest.now (subst (λ (bs : List ℕ). Leads K front bs L) p.passes.stands leads) p.leads;
}

pub stalls_behind : (K L : List ℕ → Type 0) (a b : TextCursor) (front : List ℕ) (f : ScanFault) → Passes a front b → Leads K front b.rest.now L → ((front ≡ []) ⊎ ((text : List ℕ) × L text)) →
    StallsAt L b f → StallsAt K a f
stalls_behind K L a b front (fault.Place place) passes leads some p = (
  front ++ p.0,
  subst (λ (bs : List ℕ). Stalls K bs (front ++ p.0)) (sym passes.stands) (stalls_after K L front p.0 b.rest.now leads some p.1),
  omega (arith, passes.counted, p.2, length-append front p.0),
)
stalls_behind K L a b front fault.Memory passes leads some p = tt
