-- Games between two games, with shares and certificates between theirs: a times the one and b times the other. So with
-- a and b of at least 0, not both 0, the part b of a + b of the way, times a + b. Each law is the contract of a
-- function of this crate.
--
--   mixed_game a b g h       a coalition is worth a times its worth in g and b times that in h
--   mixed_shares a b x y     a times the shares of x and b times those of y, over both denominators
--   mixed_level, mixed_levels   levels, with a times their excesses and b times those of others
--   IsLikeLevel, AreLikeLevels   levels that differ from others in their excesses alone
--   CertificatesCarry        what certifies shares of two games, but for the excesses, certifies the shares between of
--                            the game between
--   AllBetweenAreNucleoli    so the shares between are the nucleolus of the game between
--   agree, runway, halves    two who both have to agree, two who need a runway of 2, and half for each of 1
--   level                    each alone at an excess, in halves
--   MixedPairs               an example: their levels differ in the excess alone, and those of two weights in more
use Rattle.std.specs.Prelude.{◌≡◌, List, [], ◌∷◌, map, length, ℤ, pos, neg_ℤ, ◌+ℤ◌, ◌*ℤ◌, ◌≤ℤ◌}
use Rattle.std.specs.List.{range_with_len}
use Rattle.definitions.specs.Games.{Game, Allocation, share, IsNucleolus}
use Rattle.definitions.specs.Certificates.{Level, HasForm, Certifies}
use Rattle.definitions.specs.Measures.{IsMeasurable}
use Rattle.definitions.specs.declared.Family.{Family}
use Rattle.definitions.specs.declared.Measure.{Measure}
use Rattle.definitions.specs.declared.Measure.TheVariants.{Plain}
use Rattle.definitions.specs.declared.Mode.{Mode}
use Rattle.law_answers.specs.ClassGames.{airport_game, voting_game}

-- of two games with the same players
abbrev pub mixed_game : ℤ → ℤ → Game → Game → Game
mixed_game a b g h = record { players = g.players; worth = λ s. a *ℤ g.worth s +ℤ b *ℤ h.worth s }

abbrev pub mixed_shares : ℤ → ℤ → Allocation → Allocation → Allocation
mixed_shares a b x y = record {
  shares =
      map (λ i. (a *ℤ y.den) *ℤ share x i +ℤ (b *ℤ x.den) *ℤ share y i) (range_with_len 0 (length x.shares));
  den = x.den *ℤ y.den;
}

abbrev pub mixed_level : ℤ → ℤ → Level → Level → Level
mixed_level a b l m = record {
  excess_num = (a *ℤ m.excess_den) *ℤ l.excess_num +ℤ (b *ℤ l.excess_den) *ℤ m.excess_num;
  excess_den = l.excess_den *ℤ m.excess_den;
  coalitions = l.coalitions;
  earlier = l.earlier;
  bounds = l.bounds;
  total = l.total;
}

abbrev pub mixed_levels : ℤ → ℤ → List Level → List Level → List Level
mixed_levels a b [] ms = []
mixed_levels a b (l ∷ ls) [] = []
mixed_levels a b (l ∷ ls) (m ∷ ms) = mixed_level a b l m ∷ mixed_levels a b ls ms

pub record IsLikeLevel (l m : Level) : Type 0 where
  pub coalitions : m.coalitions ≡ l.coalitions
  pub earlier : m.earlier ≡ l.earlier
  pub bounds : m.bounds ≡ l.bounds
  pub total : m.total ≡ l.total

abbrev pub AreLikeLevels : List Level → List Level → Type 0
AreLikeLevels [] [] = Unit {0}
AreLikeLevels [] (m ∷ ms) = ⊥
AreLikeLevels (l ∷ ls) [] = ⊥
AreLikeLevels (l ∷ ls) (m ∷ ms) = IsLikeLevel l m × AreLikeLevels ls ms

-- levels in their form that certify x for g, and but for their excesses y for h, certify the shares between for the
-- game between, again in their form
abbrev pub CertificatesCarry : Type 0
CertificatesCarry =
    (mode : Mode) (family : Family) (measure : Measure) (g h : Game) (x y : Allocation) (ls ms : List Level) (a b : ℤ)
    → g.players ≡ h.players → pos 0 ≤ℤ a → pos 0 ≤ℤ b → AreLikeLevels ls ms
    → HasForm mode g.players ls → HasForm mode h.players ms
    → Certifies mode family measure g x ls → Certifies mode family measure h y ms
    → HasForm mode g.players (mixed_levels a b ls ms)
    × Certifies mode family measure (mixed_game a b g h) (mixed_shares a b x y) (mixed_levels a b ls ms)

abbrev pub AllBetweenAreNucleoli : Type 0
AllBetweenAreNucleoli =
    (mode : Mode) (family : Family) (measure : Measure) (g h : Game) (x y : Allocation) (ls ms : List Level) (a b : ℤ)
    → IsMeasurable measure g.players → g.players ≡ h.players → pos 0 ≤ℤ a → pos 0 ≤ℤ b → AreLikeLevels ls ms
    → HasForm mode g.players ls → HasForm mode h.players ms
    → Certifies mode family measure g x ls → Certifies mode family measure h y ms
    → IsNucleolus family measure (mixed_game a b g h) (mixed_shares a b x y)

abbrev pub agree : Game
agree = voting_game 2 (1 ∷ (1 ∷ []))

abbrev pub runway : Game
runway = airport_game (2 ∷ (2 ∷ []))

abbrev pub halves : Allocation
halves = record { shares = pos 1 ∷ (pos 1 ∷ []); den = pos 2 }

-- each pays 1
abbrev pub ones : Allocation
ones = record { shares = neg_ℤ (pos 1) ∷ (neg_ℤ (pos 1) ∷ []); den = pos 1 }

-- each alone, with a weight, at an excess in halves
abbrev pub level : ℤ → ℤ → Level
level weight excess = record {
  excess_num = excess;
  excess_den = pos 2;
  coalitions = (1, weight) ∷ ((2, weight) ∷ []);
  earlier = [];
  bounds = [];
  total = weight;
}

-- Each alone lacks a half where both have to agree, and 1 of the runway. Of twice the first game and once the second,
-- each gets twice a half and pays 1: nothing, by levels with twice the one excess and once the other. Levels with other
-- weights differ in more than excesses.
abbrev pub MixedPairs : Type 0
MixedPairs =
    (AreLikeLevels (level (pos 1) (neg_ℤ (pos 1)) ∷ []) (level (pos 1) (neg_ℤ (pos 2)) ∷ [])
    × ¬ AreLikeLevels (level (pos 1) (neg_ℤ (pos 1)) ∷ []) (level (pos 2) (neg_ℤ (pos 2)) ∷ []))
    × ((family : Family)
    → IsNucleolus family Plain (mixed_game (pos 2) (pos 1) agree runway) (mixed_shares (pos 2) (pos 1) halves ones))
