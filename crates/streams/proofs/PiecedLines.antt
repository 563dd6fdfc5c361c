-- A line that is read piece by piece, of which the first bytes stay.
use Rattle.std.proofs.Common.{◌≡◌, ◌≢◌, ℕ, ◌-◌, List, [], ◌++◌, length, take, drop, Option, None, Some, refl, sym, ap, subst, ◌∙◌, arith, append_assoc, append-nil, MatchOption, is_some, false, length-append, length-take-le, take-take, take_all}
use Rattle.std.specs.Io.KnownBytes.{Keeps}
use Rattle.std.proofs.lemmas.Bool.{false≢true}
use Rattle.std.proofs.lemmas.List.{take-append-le}
use Rattle.std.proofs.lemmas.List.Elements.{All-append}
use Rattle.std.proofs.Math.Seq.{drop-append_seam}
use Rattle.history.specs.Text.{HasNoBreak}
use Rattle.streams.specs.Window.{Grows, StaysAhead}
use Rattle.streams.specs.inner.Window.{IsFrontAhead}

-- the first bytes of a line and of more of it
first_of : (n : ℕ) (line more : List ℕ) → take n (take n line ++ more) ≡ take n (line ++ more)
first_of n line more =
    grind (
      arith,
      take_all n line,
      length-take-le n line,
      take-append-le n (take n line) more,
      take-take n n line,
      take-append-le n line more,
    )

-- nothing was read behind the front
pub stays : (old window new : List ℕ) (first left after : Option (List ℕ)) →
    IsFrontAhead old first window left → new ≡ window → Keeps left after → StaysAhead old first new after
stays old window new None left after front same keeps = tt
stays old window new (Some xs) None after front same keeps = absurd front
stays old window new (Some xs) (Some ys) None front same keeps = absurd keeps
stays old window new (Some xs) (Some ys) (Some zs) front same keeps =
    record {
      line = front.line;
      rest = [];
      parts = front.parts ∙ ap (λ (t : List ℕ). front.line ++ t) (sym keeps);
      one_line = front.one_line;
      seen = same ∙ front.seen ∙ sym (append-nil (take 256 front.line));
    }

pub still : (old window : List ℕ) (first left : Option (List ℕ)) → IsFrontAhead old first window left →
    StaysAhead old first window left
still old window None left front = tt
still old window (Some xs) None front = absurd front
still old window (Some xs) (Some ys) front =
    stays old window window (Some xs) (Some ys) (Some ys) front refl refl

-- the last bytes are those that were read
pub last_read : (old new : List ℕ) (left after : Option (List ℕ)) (n : ℕ) (g : Grows old new left after n) →
    drop (length new - n) new ≡ g.more
last_read old new left after n g =
    grind (arith, g.count, g.behind, length-append old g.more, drop-append_seam old g.more)

-- a piece was read that holds no break
pub goes_on : (old window grown new : List ℕ) (first left after : Option (List ℕ)) (n : ℕ) →
    Grows window grown left after n → HasNoBreak (drop (length grown - n) grown) → new ≡ take 256 grown →
    IsFrontAhead old first window left → IsFrontAhead old first new after
goes_on old window grown new None left after n g whole is front = tt
goes_on old window grown new (Some xs) None after n g whole is front = absurd front
goes_on old window grown new (Some xs) (Some ys) None n g whole is front = absurd g.consumed
goes_on old window grown new (Some xs) (Some ys) (Some zs) n g whole is front =
    record {
      line = front.line ++ g.more;
      parts = front.parts ∙ ap (λ (t : List ℕ). front.line ++ t) g.consumed
          ∙ sym (append_assoc front.line g.more zs);
      one_line = All-append (λ (b : ℕ). b ≢ 10) front.line g.more front.one_line
          (subst HasNoBreak (last_read window grown _ _ n g) whole);
      seen = is ∙ ap (take 256) (g.behind ∙ ap (λ (t : List ℕ). t ++ g.more) front.seen)
          ∙ first_of 256 front.line g.more;
    }

-- nothing was found
pub none_of : {X : Type 0} (r : Option X) (P : Type 0) (Q : X → Type 0) → MatchOption r P Q →
    is_some r ≡ false → P
none_of None P Q found none = found
none_of (Some x) P Q found none = absurd (false≢true (sym none))
