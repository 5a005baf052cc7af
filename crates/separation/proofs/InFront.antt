-- The first column that improves of a list, found part by part.
use Rattle.std.proofs.Common.{◌≡◌, ℕ, zero, suc, ◌+◌, ◌-◌, ◌<◌, ◌≤◌, Bool, true}
use Rattle.std.proofs.Common.{false, List, ◌++◌, length, length-append, ℤ, pos, ◌-ℤ◌, ◌*ℤ◌, ◌<ℤ◌}
use Rattle.std.proofs.Common.{Option, None, Some, refl, sym, ap, subst, inl, inr, ◌∙◌}
use Rattle.std.proofs.Common.{arith, ◌^◌, unsigned_abs, ◌*◌, map, drop, get_or}
use Rattle.std.proofs.lemmas.Int.{ints}
use Rattle.std.proofs.lemmas.List.{append_assoc, get_or-append_right, get_or_append_left, drop_all}
use Rattle.std.proofs.Math.Pow.{pow-lt}
use Rattle.std.specs.Option.{ForSome}
use Rattle.definitions.specs.Coalitions.{singleton, grand_coalition}
use Rattle.definitions.specs.Games.{Game}
use Rattle.definitions.specs.declared.Family.{Family}
use Rattle.definitions.specs.declared.Family.TheVariants.{Imputations, Preimputations}
use Rattle.definitions.specs.declared.Measure.{Measure}
use Rattle.definitions.specs.Certificates.{Level}
use Rattle.definitions.proofs.Cases.{below_or_above}
use Rattle.definitions.proofs.Ring.{linear, mul-zeroℤ, mul-subℤ}
use Rattle.kohlberg.proofs.Pairs.{drop-more}
use Rattle.separation.specs.Stage.{earlier_of}
use Rattle.separation.specs.Kept.{column_at, plain_entry}
use Rattle.separation.specs.Making.{listed, plain, minus, single, bound, both_columns, earlier_columns}
use Rattle.separation.specs.Making.{alone_columns, inner_columns}
use Rattle.separation.specs.Values.{multiplier_at, column_value, counted}
use Rattle.separation.specs.Scanned.{game_of, ImprovesIn, NoneOf, IsFirstOf, worth_in}
use Rattle.separation.specs.declared.scan.Scan.{Scan}
use Rattle.worth_core.specs.declared.worth.Worth.{Ghosts}
use Rattle.separation.specs.declared.column.Column.{Column}
use Rattle.separation.proofs.InnerColumns.{length-inner}
use Rattle.separation.proofs.Counts.{level_length, columns_length}
use Rattle.separation.proofs.EarlierColumns.{level_split, none_left}
use Rattle.separation.proofs.Slots.{length-listed, listed_at, past_at, for_some}
use Rattle.separation.proofs.Valued.{signed_sum}

-- ---- a column negated

negated_value : (measure : Measure) (num : List ℤ) (n s : ℕ) (g : Game) (level : Option ℕ)
    → column_value measure num n (minus g s level) ≡ pos 0 -ℤ column_value measure num n (plain g s level)
negated_value measure num n s g level =
    signed_sum (length num) (multiplier_at num) (λ r. plain_entry measure n s level r) true

negated_cost : (den z : ℤ) (w : Bool) → den *ℤ counted w (pos 0 -ℤ z) ≡ pos 0 -ℤ den *ℤ counted w z
negated_cost den z true = omega (arith, linear, mul-subℤ den (pos 0) z, mul-zeroℤ den)
negated_cost den z false = omega (arith, linear, mul-zeroℤ den)

negated_below : (v c v' c' : ℤ) → v' ≡ pos 0 -ℤ v → c' ≡ pos 0 -ℤ c → c <ℤ v → v' <ℤ c'
negated_below v c v' c' e f lt = omega (arith, ints)

below_negated : (v c v' c' : ℤ) → v' ≡ pos 0 -ℤ v → c' ≡ pos 0 -ℤ c → v' <ℤ c' → c <ℤ v
below_negated v c v' c' e f lt = omega (arith, ints)

module _ {X : Type 0} {W : Ghosts X} (x : Scan X W) where
  abbrev g : Game
  g = game_of x

  abbrev n : ℕ
  n = x.program.now.players

  abbrev Up : Option Column → Type 0
  Up = ImprovesIn x

  abbrev NoneUp : List (Option Column) → Type 0
  NoneUp = NoneOf x

  abbrev FirstUp : List (Option Column) → ℕ → Type 0
  FirstUp = IsFirstOf x

  -- ---- both columns of a coalition

  module _ (s : ℕ) (level : Option ℕ) where
    abbrev value : ℤ
    value = column_value x.program.now.measure x.m.now.num.items n (plain g s level)

    abbrev cost : ℤ
    cost = x.m.now.den *ℤ worth_in x s

    negative : column_value x.program.now.measure x.m.now.num.items n (minus g s level) ≡ pos 0 -ℤ value
    negative = negated_value x.program.now.measure x.m.now.num.items n s g level

    lost : x.m.now.den *ℤ counted x.with_costs (pos 0 -ℤ g.worth s) ≡ pos 0 -ℤ cost
    lost = negated_cost x.m.now.den (g.worth s) x.with_costs

    minus_improves : cost <ℤ value → Up (Some (minus g s level))
    minus_improves lt = negated_below value cost _ _ negative lost lt

    minus_not : ¬ (cost <ℤ value) → ¬ Up (Some (minus g s level))
    minus_not le up = le (below_negated value cost _ _ negative lost up)

    pub second_up : ¬ (value <ℤ cost) → cost <ℤ value → FirstUp (both_columns g s level) 1
    second_up not_first lt = record { place = omega arith; improves = minus_improves lt; least = before }
      where
        before : (j : ℕ) → j < 1 → ¬ Up (column_at (both_columns g s level) j)
        before zero less = not_first
        before (suc j) less = absurd (omega (arith, less))

    pub none_up : ¬ (value <ℤ cost) → ¬ (cost <ℤ value) → NoneUp (both_columns g s level)
    none_up not_first not_second zero = not_first
    none_up not_first not_second (suc zero) = minus_not not_second
    none_up not_first not_second (suc (suc j)) = λ up. up

  -- ---- one list behind another

  module _ (before behind : List (Option Column)) where
    pub none_either : NoneUp before → NoneUp behind → NoneUp (before ++ behind)
    none_either first rest j up = elim (below_or_above j (length before)) [
      | inl less ↦ first j (rw (get_or_append_left before behind None j less) at up)
      | inr le ↦ rest (j - length before)
          (rw (get_or-append_right before behind (length before) j None refl le) at up)
    ]

    pub first_before : (place : ℕ) → FirstUp before place → FirstUp (before ++ behind) place
    first_before place h =
        let lt : place < length before = h.place in
        record {
          place = let e = length-append before behind in omega arith;
          improves = rw (get_or_append_left before behind None place lt) h.improves;
          least = λ j less up. h.least j less
              (rw (get_or_append_left before behind None j (omega arith)) at up);
        }

    pub first_behind : (place : ℕ) → NoneUp before → FirstUp behind place
        → FirstUp (before ++ behind) (length before + place)
    first_behind place none h =
        let d : length before + place - length before ≡ place = omega arith in
        record {
          place = let e = length-append before behind in let lt = h.place in omega arith;
          improves =
              rw (get_or-append_right before behind (length before) (length before + place) None refl (omega arith)
              ∙ ap (column_at behind) d) h.improves;
          least = λ j less up. elim (below_or_above j (length before)) [
            | inl lt ↦ none j (rw (get_or_append_left before behind None j lt) at up)
            | inr le ↦ h.least (j - length before) (omega arith)
                (rw (get_or-append_right before behind (length before) j None refl le) at up)
          ];
        }

  -- ---- what is left of a list decides, where no column that was passed improves

  abbrev pub Decide : List (Option Column) → ℕ → List (Option Column) → Type 0
  Decide columns passed rest =
      (NoneUp rest → NoneUp columns) × ((place : ℕ) → FirstUp rest place → FirstUp columns (passed + place))

  pub decide_all : (columns : List (Option Column)) → Decide columns 0 columns
  decide_all columns = (
    λ none. none,
    λ place first. let e : place ≡ 0 + place = omega arith in rw e at first,
  )

  pub decide_here : (columns here behind : List (Option Column)) (passed place : ℕ)
      → Decide columns passed (here ++ behind) → FirstUp here place → FirstUp columns (passed + place)
  decide_here columns here behind passed place h first = h.1 place (first_before here behind place first)

  pub decide_behind : (columns here behind : List (Option Column)) (passed : ℕ)
      → Decide columns passed (here ++ behind) → NoneUp here → Decide columns (passed + length here) behind
  decide_behind columns here behind passed h none = (
    λ rest. h.0 (none_either here behind none rest),
    λ place first. let e : passed + (length here + place) ≡ passed + length here + place = omega arith in
        rw e at (h.1 (length here + place) (first_behind here behind place none first)),
  )

  -- ---- a list of the columns of a sequence

  module _ (count : ℕ) (f : ℕ → Option Column) where
    pub first_listed : (i : ℕ) → i < count → Up (f i) → ((j : ℕ) → j < i → ¬ Up (f j)) → FirstUp (listed count f) i
    first_listed i lt up none = record {
      place = let e = length-listed count f in omega arith;
      improves = rw (listed_at count i f lt) up;
      least = λ j less improves. none j less (rw (listed_at count j f (omega arith)) at improves);
    }

    pub none_listed : ((j : ℕ) → j < count → ¬ Up (f j)) → NoneUp (listed count f)
    none_listed none j up = elim (below_or_above j count) [
      | inl less ↦ none j less (rw (listed_at count j f less) at up)
      | inr le ↦ (let e = length-listed count f in
          rw (past_at (listed count f) j (omega arith)) at up)
    ]

  -- ---- the coalitions of one level

  module _ (k : ℕ) (pairs : List (ℕ × ℤ)) where
    abbrev pub of_level : List (Option Column)
    of_level = earlier_columns g (map (λ c. (c.0, k)) pairs)

    abbrev pub of_pairs : ℕ → List (Option Column)
    of_pairs j = earlier_columns g (map (λ c. (c.0, k)) (drop j pairs))

    one_pair : (j : ℕ) (d : ℕ × ℤ) → j < length pairs
        → of_pairs j ≡ both_columns g (get_or pairs j d).0 (Some k) ++ of_pairs (j + 1)
    one_pair j d lt =
        ap (λ (ps : List (ℕ × ℤ)). earlier_columns g (map (λ c. (c.0, k)) ps)) (drop-more pairs j d lt)

    pub pair_first : (j place : ℕ) (d : ℕ × ℤ) → j < length pairs → Decide of_level (2 * j) (of_pairs j)
        → FirstUp (both_columns g (get_or pairs j d).0 (Some k)) place → FirstUp of_level (2 * j + place)
    pair_first j place d lt h first =
        decide_here of_level (both_columns g (get_or pairs j d).0 (Some k)) (of_pairs (j + 1)) (2 * j) place
        (rw (one_pair j d lt) at h) first

    pub pair_passed : (j : ℕ) (d : ℕ × ℤ) → j < length pairs → Decide of_level (2 * j) (of_pairs j)
        → NoneUp (both_columns g (get_or pairs j d).0 (Some k)) → Decide of_level (2 * (j + 1)) (of_pairs (j + 1))
    pair_passed j d lt h none =
        let e : 2 * j + 2 ≡ 2 * (j + 1) = omega arith in
        rw e at (decide_behind of_level (both_columns g (get_or pairs j d).0 (Some k)) (of_pairs (j + 1)) (2 * j)
        (rw (one_pair j d lt) at h) none)

    pub pairs_passed : (j : ℕ) → length pairs ≤ j → Decide of_level (2 * j) (of_pairs j) → NoneUp of_level
    pairs_passed j le h = h.0 (λ i. rw (drop_all j pairs le) (λ up. up))

  -- ---- the coalitions of the levels

  module _ (levels : List Level) where
    abbrev pub of_levels : List (Option Column)
    of_levels = earlier_columns g (earlier_of 0 levels)

    abbrev pub from_level : ℕ → List (Option Column)
    from_level k = earlier_columns g (earlier_of k (drop k levels))

    pub level_first : (k place passed : ℕ) (d : Level) → k < length levels → Decide of_levels passed (from_level k)
        → FirstUp (earlier_columns g (map (λ c. (c.0, k)) (get_or levels k d).coalitions)) place
        → FirstUp of_levels (passed + place)
    level_first k place passed d lt h first =
        decide_here of_levels (earlier_columns g (map (λ c. (c.0, k)) (get_or levels k d).coalitions))
        (from_level (k + 1)) passed place (rw (level_split g levels k d lt) at h) first

    pub level_passed : (k passed : ℕ) (d : Level) → k < length levels → Decide of_levels passed (from_level k)
        → NoneUp (earlier_columns g (map (λ c. (c.0, k)) (get_or levels k d).coalitions))
        → Decide of_levels (passed + 2 * length (get_or levels k d).coalitions) (from_level (k + 1))
    level_passed k passed d lt h none =
        rw (level_length g k (get_or levels k d).coalitions) at
        (decide_behind of_levels (earlier_columns g (map (λ c. (c.0, k)) (get_or levels k d).coalitions))
        (from_level (k + 1)) passed (rw (level_split g levels k d lt) at h) none)

    pub levels_passed : (k passed : ℕ) → length levels ≤ k → Decide of_levels passed (from_level k)
        → NoneUp of_levels
    levels_passed k passed le h = h.0 (λ i. rw (← (none_left g k i levels le)) (λ up. up))

  -- ---- the players alone

  pub none_alone : (family : Family) (front : List Level) → family ≡ Preimputations
      → NoneUp (alone_columns family g front)
  none_alone family front is =
      rw is
      (none_either (listed g.players (single Preimputations g)) (listed g.players (bound Preimputations g front))
      (none_listed g.players (single Preimputations g) (λ j lt up. up))
      (none_listed g.players (bound Preimputations g front) (λ j lt up. up)))

  module _ (family : Family) (front : List Level) (is : family ≡ Imputations) where
    abbrev pub singles : List (Option Column)
    singles = listed n (single Imputations g)

    abbrev pub bounds : List (Option Column)
    bounds = listed n (bound Imputations g front)

    alone_is : singles ++ bounds ≡ alone_columns family g front
    alone_is =
        rw is
        (ap (λ (t : ℕ). listed t (single Imputations g) ++ listed t (bound Imputations g front)) x.program.now.count)

    pub none_of_players : NoneUp singles → NoneUp bounds → NoneUp (alone_columns family g front)
    none_of_players none rest = rw alone_is at (none_either singles bounds none rest)

    pub single_first : (i : ℕ) → FirstUp singles i → FirstUp (alone_columns family g front) i
    single_first i first = rw alone_is at (first_before singles bounds i first)

    pub bound_first : (i : ℕ) → NoneUp singles → FirstUp bounds i → FirstUp (alone_columns family g front) (n + i)
    bound_first i none first =
        rw alone_is at (rw (length-listed n (single Imputations g)) at (first_behind singles bounds i none first))

  -- ---- all in front of a stage's coalitions outside

  module _ (family : Family) (front : List Level) where
    abbrev whole : List (Option Column)
    whole = both_columns g (grand_coalition g.players) None

    abbrev earlier : List (Option Column)
    earlier = earlier_columns g (earlier_of 0 front)

    abbrev alone : List (Option Column)
    alone = alone_columns family g front

    inner_is : whole ++ (earlier ++ alone) ≡ inner_columns family g front
    inner_is =
        ap (λ (t : List (Option Column)). whole ++ t)
        (sym (append_assoc earlier (listed g.players (single family g)) (listed g.players (bound family g front))))

    pub whole_first : (place : ℕ) → FirstUp whole place → FirstUp (inner_columns family g front) place
    whole_first place first =
        rw inner_is at (first_before whole (earlier ++ alone) place first)

    pub earlier_first : (place : ℕ) → NoneUp whole → FirstUp earlier place
        → FirstUp (inner_columns family g front) (2 + place)
    earlier_first place none first =
        rw inner_is at (first_behind whole (earlier ++ alone) place none (first_before earlier alone place first))

    pub alone_first : (place first : ℕ) → first ≡ length (inner_columns family g front)
        → NoneUp whole → NoneUp earlier → FirstUp alone place
        → FirstUp (inner_columns family g front) (first - 2 * n + place)
    alone_first place first e none rest up =
        let same : n ≡ g.players = x.program.now.count in
        let counted : 2 + (length earlier + place) ≡ first - 2 * n + place =
        (let k = length-inner family g front in
        let l = columns_length g (earlier_of 0 front) in omega arith) in
        rw counted at (rw inner_is at (first_behind whole (earlier ++ alone) (length earlier + place) none
        (first_behind earlier alone place rest up)))

    pub none_in_front : NoneUp whole → NoneUp earlier → NoneUp alone → NoneUp (inner_columns family g front)
    none_in_front none rest last =
        subst NoneUp inner_is (none_either whole (earlier ++ alone) none (none_either earlier alone rest last))

  -- ---- the costs of the columns of the players alone

  pub alone_small : (i : ℕ) → i < n → ForSome (single Imputations g i) (λ c. unsigned_abs c.cost < 2 ^ 46)
  alone_small i lt =
      for_some (plain g (singleton i) None) (λ c. unsigned_abs c.cost < 2 ^ 46)
      (x.program.now.laws.small (singleton i) (pow-lt (rw x.program.now.count at lt)))

  pub minus_small : (i : ℕ) → i < n
      → ForSome (Some (minus g (singleton i) None)) (λ c. unsigned_abs c.cost < 2 ^ 46)
  minus_small i lt =
      for_some (minus g (singleton i) None) (λ c. unsigned_abs c.cost < 2 ^ 46)
      (let small : unsigned_abs (g.worth (singleton i)) < 2 ^ 46 =
      x.program.now.laws.small (singleton i) (pow-lt (rw x.program.now.count at lt)) in omega (arith, ints))
