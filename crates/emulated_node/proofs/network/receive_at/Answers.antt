use Rattle.mctp_transport.specs.Packets.{packet_value_of}
use Rattle.emulated_node.{specs.ReceivedValues.{received_value}, specs.Standing.{setting_of}, proofs.Spreading.{receives_at, setting_there, settings_kept}}
use Rattle.emulated_node.proofs.network.receive_at.Goals as goal

pub receive-requires : goal.receive-requires
receive-requires g c =
    c.requires.bus (setting_of c.index_mut.result.now) (setting_there c.args.nodes.now.items c.args.node c.index_mut.result.now c.requires.node c.index_mut.ensures.value)

pub returns-clause-settings : goal.returns-clause-settings
returns-clause-settings g c =
    settings_kept g.T.Terminus.tid g.T.Terminus.records c.args.nodes.now.items c.args.node c.index_mut.result.now c.receive.new.self c.requires.node c.index_mut.ensures.value c.receive.ensures.setting

pub returns-clause-receives : goal.returns-clause-receives
returns-clause-receives g c =
    receives_at g.T.Terminus.tid g.T.Terminus.records c.args.nodes.now.items c.args.node c.index_mut.result.now c.receive.new.self c.requires.node c.index_mut.ensures.value received_value c.args.bus
    (packet_value_of c.args.frame) c.receive.result c.receive.ensures.receives
