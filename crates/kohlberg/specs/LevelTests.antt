-- For the private functions of this crate.
-- The form of a level as tests.
--
--   has_sizes     how many coalitions it may have
--   has_keys      which coalitions and players it may have
--   has_order     its coalitions and players ascend
--   has_weights   its weights and its total are small
--   level_form    all of these
use Rattle.std.specs.Prelude.{ℕ, Bool, ◌&&◌, nat_lt, nat_le, List, length}
use Rattle.std.specs.List.{list_all}
use Rattle.definitions.specs.Coalitions.{grand_coalition}
use Rattle.definitions.specs.Certificates.{Level, is_listed}
use Rattle.kohlberg.specs.Form.{is_small, ascends}

-- 1 to 65536 coalitions, and at most 65536 earlier ones
abbrev pub has_sizes : Level → Bool
has_sizes l =
    nat_le 1 (length l.coalitions) && nat_le (length l.coalitions) 65536 && nat_le (length l.earlier) 65536

-- coalitions are neither empty nor all, earlier ones are listed in front, and players are of the game
abbrev pub has_keys : ℕ → List Level → Level → Bool
has_keys n front l =
    list_all (λ c. nat_lt 0 c.0 && nat_lt c.0 (grand_coalition n)) l.coalitions
    && list_all (λ c. is_listed front c.0) l.earlier && list_all (λ b. nat_lt b.0 n) l.bounds

abbrev pub has_order : Level → Bool
has_order l = ascends 0 l.coalitions && ascends 0 l.earlier && ascends 0 l.bounds

abbrev pub has_weights : Level → Bool
has_weights l =
    list_all (λ p. is_small p.1) l.coalitions && list_all (λ p. is_small p.1) l.earlier
    && list_all (λ p. is_small p.1) l.bounds && is_small l.total

-- all tests of a level behind those in front
abbrev pub level_form : ℕ → List Level → Level → Bool
level_form n front l = has_sizes l && has_keys n front l && has_order l && has_weights l
