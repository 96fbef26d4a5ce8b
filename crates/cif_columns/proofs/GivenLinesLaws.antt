-- A run of `next`: one step for each answer.
use Rattle.cif_columns.proofs.Names.{All, All-push, Answers, AreAllContents, AreContentsToCut, AreContentsToFault, AreContentsToRefusal}
use Rattle.cif_columns.proofs.Names.{AreWholeContentsAndRest, Bool, DecideNoContent, EndsLine, Err, GivenDecideContent, HasLineReason}
use Rattle.cif_columns.proofs.Names.{IfSome, IsContentDecidedWithin, IsFirstContent, IsLine, IsNextBy, IsSomeAnd, LineFault, LineReader}
use Rattle.cif_columns.proofs.Names.{List, Most, None, Ok, Option, Read, Reading, Refusal, Refused, Some, Source, [], ap, append-nil}
use Rattle.cif_columns.proofs.Names.{append_assoc, arith, contents_of, false, length, length-append, lines, most_by, past, prepend_known}
use Rattle.cif_columns.proofs.Names.{refl, source_ended, subst, sym, unread_of, ℕ, ◌++◌, ◌+◌, ◌∙◌, ◌∷◌, ◌≡◌, ◌≤◌}
use mathlib.Core.Logic.{inl, inr, ◌⊎◌}
use Rattle.cif_columns.proofs.WholeLines.{ends_after, ends_before, lines_piece, lines_whole, piece_of}
use Rattle.cif_columns.specs.LineReader.{given, held, left, limit}

-- the bytes are such contents and a rest, where the bytes at the start are known, and with them what is left
abbrev pub KnownContents : (List ℕ → Type 0) → Option (List ℕ) → List (List ℕ) → Option (List ℕ) → Type 0
KnownContents P start lines rest = IfSome start (λ bytes. IsSomeAnd rest (λ others. AreWholeContentsAndRest P bytes lines others))

-- The reader reads on within this limit. These are the contents that it has given so far of the bytes that were left at the start.
pub record IsReadingContents (P : List ℕ → Type 0) {R : Type 0} (remaining : R → Option (List ℕ)) (start : Option (List ℕ)) (max : ℕ)
    (reader : LineReader)
    (source : Source R) (lines : List (List ℕ)) : Type 0 where
  pub reads_on : past reader ≡ Reading
  pub same_limit : limit reader ≡ max
  pub counted : given reader ≡ length lines
  pub known : KnownContents P start lines (left remaining reader source)

-- the same of lines alone
abbrev pub IsReading : {R : Type 0} → (R → Option (List ℕ)) → Option (List ℕ) → ℕ → LineReader → Source R → List (List ℕ) → Type 0
IsReading remaining start max reader source lines = IsReadingContents IsLine remaining start max reader source lines

-- ---- known bytes

unfoldable pub none_given : {P : List ℕ → Type 0} (bytes : List ℕ) → AreWholeContentsAndRest P bytes [] bytes
none_given bytes = record { whole = []; parts = refl; ended = inl refl; contents = refl; are_lines = λ k d below. absurd (omega arith) }

-- the contents of the bytes are the lines that were given and the contents of the rest
pub contents_given : {P : List ℕ → Type 0} (bytes : List ℕ) (ls : List (List ℕ)) (rest : List ℕ) → AreWholeContentsAndRest P bytes ls rest
    → contents_of bytes ≡ ls ++ contents_of rest
contents_given bytes ls rest so_far =
    ap lines so_far.parts ∙ lines_whole so_far.whole rest so_far.ended ∙ ap (λ l. l ++ lines rest) so_far.contents

-- a piece more, which is one content
unfoldable pub whole_more : {P : List ℕ → Type 0} (bytes : List ℕ) (ls : List (List ℕ)) (rest piece content rest' : List ℕ)
    → AreWholeContentsAndRest P bytes ls rest → rest ≡ piece ++ rest' → EndsLine piece rest' → lines piece ≡ content ∷ [] → P content
    → AreWholeContentsAndRest P bytes (ls ++ content ∷ []) rest'
whole_more {P} bytes ls rest piece content rest' so_far parts ended one is =
    let front : (so_far.whole ≡ []) ⊎ EndsLine so_far.whole (piece ++ rest') =
    subst (λ l. (so_far.whole ≡ []) ⊎ EndsLine so_far.whole l) parts so_far.ended in
    record {
      whole = so_far.whole ++ piece;
      parts = so_far.parts ∙ ap (λ l. so_far.whole ++ l) parts ∙ sym (append_assoc so_far.whole piece rest');
      ended = inr (ends_after so_far.whole piece rest' ended);
      contents = lines_whole so_far.whole piece (ends_before so_far.whole piece rest' front) ∙ ap (λ l. l ++ lines piece) so_far.contents
          ∙ ap (λ l. ls ++ l) one;
      are_lines = All-push P ls content so_far.are_lines is;
    }

pub one_more : {P : List ℕ → Type 0} (bytes : List ℕ) (ls : List (List ℕ)) (rest content rest' : List ℕ)
    → AreWholeContentsAndRest P bytes ls rest → P content → IsFirstContent rest content rest'
    → AreWholeContentsAndRest P bytes (ls ++ content ∷ []) rest'
one_more bytes ls rest content rest' so_far is next =
    let (piece, parts, ended) = piece_of rest content rest' next.stands in
    whole_more bytes ls rest piece content rest' so_far parts ended
    (lines_piece piece rest' content ended (ap lines (sym parts) ∙ next.contents)) is

-- the bytes that are held are a prefix of those that are left, and the others are those that the reader has
pub held_front : (hold rest : List ℕ) (remaining : Option (List ℕ)) → prepend_known hold remaining ≡ Some rest
    → (unread : List ℕ) × (remaining ≡ Some unread) × (rest ≡ hold ++ unread)
held_front hold rest None e = absurd (cc)
held_front hold rest (Some unread) e =
    let same : hold ++ unread ≡ rest = cc in
    (unread, refl, sym same)

-- the bytes that the source gave are the whole lines so far, and these behind them
unfoldable pub given_front : {P : List ℕ → Type 0} (bytes : List ℕ) (ls : List (List ℕ)) (rest front unread : List ℕ)
    → rest ≡ front ++ unread → (so_far : AreWholeContentsAndRest P bytes ls rest)
    → (bytes ≡ (so_far.whole ++ front) ++ unread) × AreWholeContentsAndRest P (so_far.whole ++ front) ls front
given_front bytes ls rest front unread parts so_far = (
  so_far.parts ∙ ap (λ l. so_far.whole ++ l) parts ∙ sym (append_assoc so_far.whole front unread),
  record {
    whole = so_far.whole;
    parts = refl;
    ended = ends_before so_far.whole front unread (subst (λ l. (so_far.whole ≡ []) ⊎ EndsLine so_far.whole l) parts so_far.ended);
    contents = so_far.contents;
    are_lines = so_far.are_lines;
  },
)

-- what is said of known bytes follows from what is known of them
pub known_so : (start : Option (List ℕ)) (P Q : List ℕ → Type 0) → ((bytes : List ℕ) → P bytes → Q bytes) → IfSome start P → IfSome start Q
known_so None P Q f h = tt
known_so (Some bytes) P Q f h = f bytes h

-- what is said of known bytes follows from what is known of them and of their rest
pub with_rest : (K : List ℕ → List ℕ → Type 0) (start rest : Option (List ℕ)) (Q : List ℕ → Type 0)
    → IfSome start (λ bytes. IsSomeAnd rest (K bytes))
    → ((bytes others : List ℕ) → rest ≡ Some others → K bytes others → Q bytes) → IfSome start Q
with_rest K None rest Q known f = tt
with_rest K (Some bytes) None Q known f = absurd known
with_rest K (Some bytes) (Some others) Q known f = f bytes others refl known

-- and with it from what a call says of that rest
pub with_answer : (K : List ℕ → List ℕ → Type 0) (start rest : Option (List ℕ)) (Next Q : List ℕ → Type 0)
    → IfSome start (λ bytes. IsSomeAnd rest (K bytes)) → IfSome rest Next
    → ((bytes others : List ℕ) → K bytes others → Next others → Q bytes)
    → IfSome start Q
with_answer K start rest Next Q known next f =
    with_rest K start rest Q known (λ bytes others e k. f bytes others k (subst (λ r. IfSome r Next) e next))

-- two facts of bytes that may be known
pub known_both : (start : Option (List ℕ)) (P Q : List ℕ → Type 0) → IfSome start P → IfSome start Q → IfSome start
    (λ bytes. P bytes × Q bytes)
known_both None P Q p q = tt
known_both (Some bytes) P Q p q = (p, q)

-- where nothing is left after what is held, the reader has nothing left
pub all_given : (hold : List ℕ) (rest : Option (List ℕ)) → prepend_known hold rest ≡ Some [] → rest ≡ Some []
all_given hold None e = cc
all_given [] (Some bytes) e = e
all_given (b ∷ hold) (Some bytes) e = cc

-- ---- what comes behind the contents so far

module _ (P : List ℕ → Type 0) (start rest : Option (List ℕ)) (ls : List (List ℕ)) (known : KnownContents P start ls rest) where
  -- from what a call says of the rest
  known_of : (Next Q : List ℕ → Type 0) → IfSome rest Next
      → ((bytes others : List ℕ) → AreWholeContentsAndRest P bytes ls others → Next others → Q bytes) → IfSome start Q
  known_of Next Q next f = with_answer (λ bytes others. AreWholeContentsAndRest P bytes ls others) start rest Next Q known next f

  -- a content more
  pub known_more : (content : List ℕ) (after : Option (List ℕ))
      → IfSome rest (λ bytes. P content × ((others : List ℕ) × (after ≡ Some others) × IsFirstContent bytes content others))
      → KnownContents P start (ls ++ content ∷ []) after
  known_more content after next = known_of _ _ next (λ bytes others known next.
      subst (λ r. IsSomeAnd r (λ o. AreWholeContentsAndRest P bytes (ls ++ content ∷ []) o)) (sym next.1.1)
      (one_more bytes ls others content next.1.0 known next.0 next.1.2))

  -- a content that isn't among them, and others behind it
  pub known_next : (Q : List ℕ → Type 0)
      → IfSome rest (λ bytes. (content : List ℕ) × (others : List (List ℕ)) × (contents_of bytes ≡ content ∷ others) × Q content)
      → IfSome start (λ bytes. (content : List ℕ) × (others : List (List ℕ)) × (contents_of bytes ≡ ls ++ content ∷ others)
      × All P ls × Q content)
  known_next Q next = known_of _ _ next (λ bytes others known next. (
    next.0,
    next.1,
    contents_given bytes ls others known ∙ ap (λ l. ls ++ l) next.2,
    known.are_lines,
    next.3,
  ))

  module _ (max : ℕ) (within : length ls ≤ max) where
    -- the end of the input
    pub known_all : IfSome rest (λ bytes. bytes ≡ []) → IfSome start (λ bytes. AreAllContents P max bytes ls)
    known_all ended = known_of _ _ ended (λ bytes others known none. record {
      contents = contents_given bytes ls others known ∙ ap (λ l. ls ++ lines l) none ∙ append-nil ls;
      are_lines = known.are_lines;
      within = within;
    })

    -- a failure of the source
    pub known_cut : (most : Most) (hold : List ℕ) (unread : Option (List ℕ)) → IfSome rest (λ bytes. prepend_known hold unread ≡ Some bytes)
        → DecideNoContent (most_by most hold) max (length ls) hold
        → IfSome start (λ bytes. IsSomeAnd unread (λ others. AreContentsToCut P most max bytes others ls))
    known_cut most hold unread kept undecided = known_of _ _ kept (λ bytes others known kept.
        let (more, is, parts) = held_front hold others unread kept in
        let gave = given_front bytes ls others hold more parts known in
        subst (λ r. IsSomeAnd r (λ o. AreContentsToCut P most max bytes o ls)) (sym is) (record {
          before = known.whole ++ hold;
          rest = hold;
          parts = gave.0;
          whole_lines_and_rest = gave.1;
          within = within;
          undecided = undecided;
        }))

  -- the next content is decided, unless the source told its end
  pub known_decided : (most : Most) (max number : ℕ) → number ≡ length ls + 1 → (unread : Option (List ℕ)) (ended : Bool)
      → (ended ≡ false → GivenDecideContent most max (length ls) rest unread)
      → IfSome start (λ bytes. ended ≡ false → IsSomeAnd unread (λ others. IsContentDecidedWithin P most max bytes others number))
  known_decided most max number is unread ended decides =
      with_rest (λ bytes others. AreWholeContentsAndRest P bytes ls others) start rest _ known
      (λ bytes others e known not. by bytes others unread known
      (subst (λ r. GivenDecideContent most max (length ls) r unread) e (decides not)))
    where
      by : (bytes others : List ℕ) (left : Option (List ℕ)) → AreWholeContentsAndRest P bytes ls others
          → GivenDecideContent most max (length ls) (Some others) left
          → IsSomeAnd left (λ o. IsContentDecidedWithin P most max bytes o number)
      by bytes others None known gave = absurd gave.parts
      by bytes others (Some more) known gave =
          let front = given_front bytes ls others gave.given more (sym gave.parts) known in
          record {
            lines = ls;
            before = known.whole ++ gave.given;
            rest = gave.given;
            parts = front.0;
            whole_lines_and_rest = front.1;
            numbered = is;
            decided = gave.decided;
          }

-- the bytes at the start, before any content
pub known_none : (K : List ℕ → List ℕ → Type 0) → ((bytes : List ℕ) → K bytes bytes) → (start : Option (List ℕ)) (hold : List ℕ) → hold ≡ []
    → IfSome start (λ bytes. IsSomeAnd (prepend_known hold start) (K bytes))
known_none K none start hold empty = at start (prepend_known hold start) (ap (λ l. prepend_known l start) empty)
  where
    at : (start rest : Option (List ℕ)) → rest ≡ prepend_known [] start → IfSome start (λ bytes. IsSomeAnd rest (K bytes))
    at None rest e = tt
    at (Some bytes) rest e = subst (λ r. IsSomeAnd r (K bytes)) (sym e) (none bytes)

-- ---- a reader of lines at a source

module _ {R : Type 0} (remaining : R → Option (List ℕ)) where
  -- a new reader
  pub reading_starts : {P : List ℕ → Type 0} (max : ℕ) (reader : LineReader) (source : Source R) → held reader ≡ [] → given reader ≡ 0 →
      limit reader ≡ max
      → past reader ≡ Reading
      → IsReadingContents P remaining (remaining source.reader) max reader source []
  reading_starts {P} max reader source empty zero same going = record {
    reads_on = going;
    same_limit = same;
    counted = zero;
    known = known_none (λ bytes rest. AreWholeContentsAndRest P bytes [] rest) none_given (remaining source.reader) (held reader) empty;
  }

  module _ {P : List ℕ → Type 0} (start : Option (List ℕ)) (max : ℕ) (reader : LineReader) (source : Source R) (ls : List (List ℕ))
      (so_far : IsReadingContents P remaining start max reader source ls) where
    abbrev rest : Option (List ℕ)
    rest = left remaining reader source

    within : length ls ≤ max
    within = omega (arith, so_far.counted, so_far.same_limit, reader.counted)

    -- of the reader's limit and count
    at_max : (P : ℕ → ℕ → Type 0) → P (limit reader) (given reader) → P max (length ls)
    at_max P h = subst (λ m. P m (length ls)) so_far.same_limit (subst (λ n. P (limit reader) n) so_far.counted h)

    module _ (reader' : LineReader) (source' : Source R) where
      -- a content more
      pub reading_content : (content : List ℕ)
          → (past reader ≡ Reading → IfSome (left remaining reader source)
          (λ bytes. P content × ((rest : List ℕ) × (left remaining reader' source' ≡ Some rest) × IsFirstContent bytes content rest)))
          → past reader' ≡ Reading → limit reader' ≡ limit reader → given reader' ≡ given reader + 1
          → IsReadingContents P remaining start max reader' source' (ls ++ content ∷ [])
      reading_content content answer going same more = record {
        reads_on = going;
        same_limit = same ∙ so_far.same_limit;
        counted = omega (arith, more, so_far.counted, length-append ls (content ∷ []));
        known = known_more P start rest ls so_far.known content (left remaining reader' source') (answer so_far.reads_on);
      }

      -- at the end of the input nothing is left, where the bytes were known
      pub nothing_left : (past reader ≡ Reading → IfSome (left remaining reader source)
          (λ bytes. Answers (limit reader) (given reader) bytes (Ok None) (left remaining reader' source')))
          → IfSome start (λ bytes. remaining source'.reader ≡ Some [])
      nothing_left answer = known_of P start rest ls so_far.known _ _ (answer so_far.reads_on)
          (λ bytes others known next. all_given (held reader') (remaining source'.reader) next.1)

      -- the end of the input
      pub reading_ends : (past reader ≡ Reading → IfSome (left remaining reader source)
          (λ bytes. Answers (limit reader) (given reader) bytes (Ok None) (left remaining reader' source')))
          → IfSome start (λ bytes. AreAllContents P max bytes ls)
      reading_ends answer = known_all P start rest ls so_far.known max within
          (known_so rest _ _ (λ bytes next. next.0) (answer so_far.reads_on))

      -- a refusal
      pub reading_refuses : (number : ℕ) (why : Refusal)
          → (past reader ≡ Reading → IfSome (left remaining reader source)
          (λ bytes. Answers (limit reader) (given reader) bytes (Err (Refused number why)) (left remaining reader' source')))
          → IfSome start (λ bytes. AreContentsToRefusal P max bytes ls number why)
      reading_refuses number why answer = known_of P start rest ls so_far.known _ _ (answer so_far.reads_on)
          (λ bytes others known next. record {
            content = next.content;
            others = next.others;
            contents = contents_given bytes ls others known ∙ ap (λ l. ls ++ l) next.contents;
            are_lines = known.are_lines;
            within = within;
            next = next.next ∙ ap (λ n. n + 1) so_far.counted;
            reason = subst (λ m. HasLineReason m number next.content why) so_far.same_limit next.reason;
          })

      -- a failure of the source
      pub reading_fails : (most : Most) → (past reader ≡ Reading → IfSome (left remaining reader source)
          (λ bytes. Answers (limit reader) (given reader) bytes (Err Read) (left remaining reader' source')))
          → DecideNoContent (most_by most (held reader')) (limit reader) (given reader) (held reader')
          → IfSome start (λ bytes. IsSomeAnd (remaining source'.reader) (λ unread. AreContentsToCut P most max bytes unread ls))
      reading_fails most answer undecided = known_cut P start rest ls so_far.known max within most (held reader')
          (remaining source'.reader) (answer so_far.reads_on)
          (at_max (λ m n. DecideNoContent (most_by most (held reader')) m n (held reader')) undecided)

      -- the next line is decided, unless the source told its end
      pub reading_decides : {most : Most} (number : ℕ) → number ≡ given reader + 1
          → (source_ended source' ≡ false
          → GivenDecideContent most (limit reader) (given reader) (left remaining reader source) (remaining source'.reader))
          → IfSome start (λ bytes. source_ended source' ≡ false
          → IsSomeAnd (remaining source'.reader) (λ unread. IsContentDecidedWithin P most max bytes unread number))
      reading_decides {most} number is decides = known_decided P start rest ls so_far.known most max number
          (is ∙ ap (λ n. n + 1) so_far.counted) (remaining source'.reader) (source_ended source')
          (λ not. at_max (λ m n. GivenDecideContent most m n rest (remaining source'.reader)) (decides not))

      -- either fault
      pub reading_faults : (errors : R → Option ℕ) {most : Most} (fault : LineFault)
          → IsNextBy remaining errors most reader source (Err fault) reader' source'
          → IfSome start (λ bytes. AreContentsToFault P most max bytes (unread_of remaining source') ls fault)
      reading_faults errors (Refused number why) next =
          known_both start _ _ (reading_refuses number why next.answer)
          (reading_decides number (next.fault so_far.reads_on).0 (next.decided so_far.reads_on (λ is. cc)))
      reading_faults errors {most} Read next = reading_fails most next.answer (next.undecided so_far.reads_on refl)

  -- a line more
  pub reading_line : (start : Option (List ℕ)) (max : ℕ) (reader : LineReader) (source : Source R) (ls : List (List ℕ))
      → IsReading remaining start max reader source ls → (reader' : LineReader) (source' : Source R) (line : List ℕ)
      → (past reader ≡ Reading → IfSome (left remaining reader source)
      (λ bytes. Answers (limit reader) (given reader) bytes (Ok (Some line)) (left remaining reader' source')))
      → past reader' ≡ Reading → limit reader' ≡ limit reader → given reader' ≡ given reader + 1
      → IsReading remaining start max reader' source' (ls ++ line ∷ [])
  reading_line start max reader source ls so_far reader' source' line answer =
      reading_content start max reader source ls so_far reader' source' line (λ going.
      known_so (left remaining reader source) _ _
      (λ bytes next. (next.2.is_line, (next.0, next.1, record { stands = next.2.stands; contents = next.2.contents }))) (answer going))
