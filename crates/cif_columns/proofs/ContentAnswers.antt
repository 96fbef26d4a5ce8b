-- What a `ContentReader` answers, by what its held bytes and its source gave.
use Rattle.cif_columns.proofs.Names.{AnswersNext, AreUndecided, Content, ContentReader, CutsNext, DecideNoContent, Err, GivenDecideContent}
use Rattle.cif_columns.proofs.Names.{GivenDecided, IsNextWithin, List, Most, NextContent, Of, Ok, Option, Overlong, Read, ReadFault}
use Rattle.cif_columns.proofs.Names.{Refused, Source, TooManyLines, ap, arith, content, length, most_by, most_of, refl, ℕ, ◌+◌, ◌<◌, ◌≡◌}
use Rattle.cif_columns.{proofs.Names.◌≢◌, proofs.FirstContents.first_some, proofs.GivenLinesLaws.known_so}
use Rattle.cif_columns.{specs.declared.ahead.NextContent.TheVariants.End}
use Rattle.cif_columns.specs.ContentReader.{given, held, left, limit}

-- what decides a content decides it where so many may come
pub given_decide : {most m : Most} {max count : ℕ} {bytes unread : Option (List ℕ)}
    → ((given : List ℕ) → DecideNoContent (most_by most given) max count given → AreUndecided (most_by m given) given)
    → GivenDecided m bytes unread
    → GivenDecideContent most max count bytes unread
given_decide so gave = record { given = gave.given; parts = gave.parts; decided = λ none. gave.decided (so gave.given none) }

module _ (most max count : ℕ) where
  -- where no more may come one byte does
  pub none_more : count ≡ max → (given : List ℕ) → DecideNoContent most max count given → AreUndecided 1 given
  none_more full given none = record { no_feed = none.no_feed; short = omega (arith, ap length (none.none_too_many full)) }

  -- and else the content itself
  pub none_decided : (given : List ℕ) → DecideNoContent most max count given → AreUndecided most given
  none_decided given none = record { no_feed = none.no_feed; short = none.short }

-- what isn't none begins with some byte
pub begins_some : (most : Most) (bytes content : List ℕ) (after : Option (List ℕ)) (next : NextContent) → 0 < most_by most bytes
    → next ≢ End → AnswersNext most bytes next content after → 0 < length bytes
begins_some most bytes content after Content some other answer = first_some (most_by most bytes) bytes content answer.0 answer.2
begins_some most bytes content after Overlong some other answer = omega (arith, some, answer.1.long)
begins_some most bytes content after End some other answer = absurd (other refl)

module _ {R : Type 0} (remaining : R → Option (List ℕ)) (errors : R → Option ℕ) (most : Most) (old new : ContentReader)
    (from to : Source R) (limit_now : limit new ≡ limit old) (most_now : most_of new ≡ most_of old) where
  -- a content that is one too many
  pub refuses_next : (next : NextContent) → CutsNext remaining errors (Of 1) old.ahead from (Ok next) new.ahead to → next ≢ End
      → given old ≡ limit old → given new ≡ given old
      → IsNextWithin remaining errors most old from (Err (Refused (given old + 1) TooManyLines)) new to
  refuses_next next cut other full same = record {
    answer = known_so (left remaining old from) _ _
        (λ bytes. begins_some (Of 1) bytes (content new) (left remaining new to) next (omega arith) other)
        cut.answer;
    holds = (full, same, refl, refl);
    limit_now = limit_now;
    most_now = most_now;
    decided = λ _ not. given_decide {m = Of 1} (λ gave. none_more (most_by most gave) (limit old) (given old) full gave) (cut.decided not);
    device = cut.device;
    ended = λ e. absurd (cc);
    fresh = λ none. tt;
  }

  -- a failure of the source
  pub fails_next : (m : Most) (fault : ReadFault) → CutsNext remaining errors m old.ahead from (Err fault) new.ahead to
      → given new ≡ given old
      → ((held_now : List ℕ) → AreUndecided (most_by m held_now) held_now
      → DecideNoContent (most_by most held_now) (limit old) (given old) held_now)
      → IsNextWithin remaining errors most old from (Err Read) new to
  fails_next m fault cut same so = record {
    answer = cut.answer;
    holds = (same, so (held new) cut.undecided);
    limit_now = limit_now;
    most_now = most_now;
    decided = λ other. absurd (other refl);
    device = cut.device;
    ended = λ e. absurd (cc);
    fresh = λ none. tt;
  }
