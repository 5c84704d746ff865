use Rattle.std.proofs.Common.{◌≡◌, ℕ, ◌<◌, ◌≤◌, ◌+◌, ◌-◌, List, [], ◌∷◌, ◌++◌, Bool, true, false, not, ◌&&◌, refl, sym, ap, ◌∙◌, set, length, take, drop, subst, suc, arith, rules, add-one, option_to_list}
use Rattle.std.specs.Prelude.{map}
use Rattle.pf_star_model.specs.Lent.{Held}
use Rattle.pf_star_model.specs.Patched.{patch_of, renamed_pair}
use Rattle.pf_star_model.proofs.Renames.{patch_is_renamed}
use Rattle.pf_core.specs.Tables.{star_seen}
use Rattle.pf_core.proofs.commit.fresh_stars.Goals as goal

pub returns : goal.returns
returns c m chunk ticket can ends whole name small =
    c.in_ok-fresh.ensures ∙ ap (λ (l : List Held). map (renamed_pair 4294967295 c.args.name) l) (c.in_ok-pairs.ensures m chunk ticket can ends small)
    ∙ ap (λ (k : ℕ). map (renamed_pair 4294967295 k) (patch_of (star_seen c.args.nodes.now c.args.seats.now c.args.a) 4294967295 c.args.op)) name
    ∙ patch_is_renamed m (star_seen c.args.nodes.now c.args.seats.now c.args.a) chunk ticket c.args.op 4294967295 can ends whole small
    ∙ ap (λ (k : ℕ). patch_of (star_seen c.args.nodes.now c.args.seats.now c.args.a) k c.args.op) (sym name)
