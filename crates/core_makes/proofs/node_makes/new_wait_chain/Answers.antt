use Rattle.core_makes.proofs.NodeLemmas.{extends_same, extends_waits, grown_by, wait_chain_new}
use Rattle.core_makes.proofs.node_makes.new_wait_chain.Goals as goal
use Rattle.core_records.proofs.Core.{[], ChainOf, sym}

pub returns-in_ok-chain-clause-loose : goal.returns-in_ok-chain-clause-loose
returns-in_ok-chain-clause-loose c =
    let b = c.make_wait_chain.new.parts in
    let n = c.in_ok-chain.chain in
    record {
      is = sym c.if-waits.true;
      loose = wait_chain_new c.args.parts.now b (extends_waits c.args.parts.now b (grown_by _ _ n (ChainOf []) c.in_ok-chain.ensures.made) c.in_ok-chain.ensures.only) c.requires n c.in_ok-chain.ensures.made;
    }

pub returns-in_ok-chain-clause-extends : goal.returns-in_ok-chain-clause-extends
returns-in_ok-chain-clause-extends c =
    extends_waits c.args.parts.now c.make_wait_chain.new.parts (grown_by _ _ c.in_ok-chain.chain (ChainOf []) c.in_ok-chain.ensures.made) c.in_ok-chain.ensures.only

pub returns-else-waits-clause-loose : goal.returns-else-waits-clause-loose
returns-else-waits-clause-loose c = record { is = sym c.if-waits.false; loose = tt }

pub returns-else-waits-clause-extends : goal.returns-else-waits-clause-extends
returns-else-waits-clause-extends c = extends_same c.args.parts.now
