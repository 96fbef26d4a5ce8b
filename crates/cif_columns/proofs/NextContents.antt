-- What a call that passes the next content answers: by what was decided, by what came last, and where its source failed.
use Rattle.cif_columns.proofs.Names.{AreUndecided, BeginOverlong, Content, CutsNext, HasReadOn, IsAtEnd, IsLast, Keeps, List, Most}
use Rattle.cif_columns.proofs.Names.{NextContent, Ok, Option, Overlong, PassesFirst, ReadFault, Result, Source, ap, arith, content_bytes}
use Rattle.cif_columns.proofs.Names.{false, held_bytes, known_left, length, most_by, reader_of, source_ended, source_failed, subst, sym}
use Rattle.cif_columns.proofs.Names.{true, ℕ, ⊎_elim, ◌<◌, ◌∙◌, ◌≡◌, ◌⊎◌}
use Rattle.cif_columns.proofs.FirstContents.{fed_decides, fed_some, last_left, overlong_decides, passed_left}
use Rattle.cif_columns.specs.declared.{ahead.Ahead.Ahead, ahead.NextContent.TheVariants.End}

-- what is held first, and what is while the source is read on
module _ {R : Type 0} (remaining : R → Option (List ℕ)) (errors : R → Option ℕ) (most : Most) (first old new : Ahead) (from to : Source R)
    (keeps : Keeps (known_left remaining first from) (known_left remaining old to)) where
  module _ (read_on : HasReadOn errors from to) where
    pub decided_next : 0 < most_by most (held_bytes old) → (held_bytes old ≡ held_bytes first) ⊎ (source_failed from ≡ false)
        → (next : NextContent) → PassesFirst (most_by most (held_bytes old)) (held_bytes old) next (content_bytes new) (held_bytes new)
        → CutsNext remaining errors most first from (Ok next) new to
    decided_next some begun Content passes = record {
      answer = passed_left most (known_left remaining first from) (remaining (reader_of to)) (held_bytes old) (content_bytes new) _
          Content keeps passes;
      overlong = λ e. absurd (cc);
      decided = λ not. record { given = held_bytes old; parts = keeps; decided = fed_decides _ _ _ _ _ passes };
      undecided = tt;
      device = read_on;
      ended = λ e. absurd (cc);
      fresh = λ none. ⊎_elim (λ same. absurd (omega (arith, fed_some _ _ _ _ passes, ap length (same ∙ none)))) (λ f. f) begun;
    }
    decided_next some begun Overlong passes = record {
      answer = passed_left most (known_left remaining first from) (remaining (reader_of to)) (held_bytes old) (content_bytes new)
          (held_bytes new) Overlong keeps passes;
      overlong = λ e. subst (λ l. BeginOverlong (most_by most l) l) (sym passes.1) passes.0;
      decided = λ not. record { given = held_bytes old; parts = keeps; decided = overlong_decides _ (held_bytes old) passes.0 };
      undecided = tt;
      device = read_on;
      ended = λ e. absurd (cc);
      fresh = λ none. ⊎_elim (λ same. absurd (omega (arith, some, passes.0.long, ap length (same ∙ none)))) (λ f. f) begun;
    }
    decided_next some begun End passes = absurd passes

    -- where the source told its end, and nothing more is held
    pub last_next : AreUndecided (most_by most (held_bytes old)) (held_bytes old) → source_failed from ≡ false → source_ended to ≡ true
        → IsAtEnd (remaining (reader_of to)) → (next : NextContent) → IsLast (held_bytes old) next (content_bytes new) (held_bytes new)
        → CutsNext remaining errors most first from (Ok next) new to
    last_next undecided going told end next last = record {
      answer = last_left most (known_left remaining first from) (remaining (reader_of to)) (held_bytes old) _ _ next keeps end
          undecided last;
      overlong = none_overlong next last;
      decided = λ not. absurd (cc);
      undecided = tt;
      device = read_on;
      ended = λ e. (going, told);
      fresh = λ none. going;
    }
      where
        none_overlong : {P : Type 0} (n : NextContent) → IsLast (held_bytes old) n (content_bytes new) (held_bytes new)
            → ◌≡◌ {A = Result NextContent ReadFault} (Ok n) (Ok Overlong) → P
        none_overlong Content last e = absurd (cc)
        none_overlong Overlong last e = absurd last
        none_overlong End last e = absurd (cc)
