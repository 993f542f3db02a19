-- The lines that show packets and records.
use Rattle.std.{specs.Prelude.{ℕ, List, ◌++◌, length, codes}, specs.Fmt.{decimal}}
use Rattle.hex.specs.Hex.{encode_lower}
use Rattle.mctp_transport.specs.PacketValues.{PacketValue, bit}
use Rattle.pdr_record.{specs.Fields.{bytes_of}, specs.Layouts.{EntityValue, SensorValue, TerminusValue, NumericValue, StateValue, AssociationValue}, specs.Records.{BodyValue, Terminus, Numeric, State, Association, Other, type_of, body_fields, RecordValue}}

-- the code of a cause
abbrev pub refused_bytes : List ℕ → List ℕ
refused_bytes code = codes "refused " ++ (code ++ codes "\n")

abbrev pub address_words_of : PacketValue → List ℕ
address_words_of f =
    codes "reserved " ++ (decimal f.reserved ++ (codes " destination " ++ (decimal f.destination
    ++ (codes " source " ++ decimal f.source))))

abbrev pub position_words_of : PacketValue → List ℕ
position_words_of f =
    codes "som " ++ (decimal (bit f.som) ++ (codes " eom " ++ (decimal (bit f.eom)
    ++ (codes " number " ++ decimal f.number))))

abbrev pub tag_words_of : PacketValue → List ℕ
tag_words_of f = codes "owner " ++ (decimal (bit f.owner) ++ (codes " tag " ++ decimal f.tag))

-- the fields of a packet's header, and its payload in hex
abbrev pub packet_bytes : PacketValue → List ℕ
packet_bytes f =
    codes "packet " ++ (address_words_of f ++ (codes " " ++ (position_words_of f ++ (codes " " ++ (tag_words_of f
    ++ (codes " payload " ++ (encode_lower f.payload ++ codes "\n")))))))

abbrev pub locator_words_of : TerminusValue → List ℕ
locator_words_of t =
    codes "container " ++ (decimal t.container_id ++ (codes " locator " ++ (decimal t.locator_type
    ++ (codes " value " ++ encode_lower t.locator_value))))

-- a terminus locator's handle, validity, terminus ID, container and locator
abbrev pub terminus_bytes : TerminusValue → List ℕ
terminus_bytes t =
    codes "terminus " ++ (decimal t.terminus_handle ++ (codes " validity " ++ (decimal t.validity
    ++ (codes " tid " ++ (decimal t.tid ++ (codes " " ++ (locator_words_of t ++ codes "\n")))))))

abbrev pub entity_words_of : EntityValue → List ℕ
entity_words_of e =
    codes "entity " ++ (decimal e.entity_type ++ (codes " instance " ++ (decimal e.instance_number
    ++ (codes " container " ++ decimal e.container_id))))

-- a sensor's terminus, identifier and entity
abbrev pub sensor_words_of : SensorValue → List ℕ
sensor_words_of s =
    decimal s.terminus_handle ++ (codes " sensor " ++ (decimal s.sensor_id ++ (codes " " ++ entity_words_of s.entity)))

-- the codes of its data size and its range field format
abbrev pub numeric_bytes : NumericValue → List ℕ
numeric_bytes n =
    codes "numeric " ++ (sensor_words_of n.sensor ++ (codes " data " ++ (decimal n.data_size
    ++ (codes " range " ++ (decimal n.range_format ++ codes "\n")))))

-- how many state sets it has
abbrev pub state_bytes : StateValue → List ℕ
state_bytes s =
    codes "state " ++ (sensor_words_of s.sensor ++ (codes " sets " ++ (decimal (length s.state_sets) ++ codes "\n")))

-- the container, and how many entities it contains
abbrev pub association_bytes : AssociationValue → List ℕ
association_bytes a =
    codes "association " ++ (decimal a.container_id ++ (codes " type " ++ (decimal a.association_type ++ (codes " "
    ++ (entity_words_of a.container_entity
    ++ (codes " contained " ++ (decimal (length a.contained_entities) ++ codes "\n")))))))

-- the line of a body, by its layout
abbrev pub body_bytes : BodyValue → List ℕ
body_bytes (Terminus t) = terminus_bytes t
body_bytes (Numeric n) = numeric_bytes n
body_bytes (State s) = state_bytes s
body_bytes (Association a) = association_bytes a
body_bytes (Other number bytes) = codes "other " ++ (encode_lower bytes ++ codes "\n")

-- the header's line, whose length is the number of bytes after the header, and the body's
abbrev pub record_text_bytes : RecordValue → List ℕ
record_text_bytes r =
    codes "record handle " ++ (decimal r.handle ++ (codes " type " ++ (decimal (type_of r.body)
    ++ (codes " change " ++ (decimal r.change
    ++ (codes " length " ++ (decimal (length (bytes_of (body_fields r.body)))
    ++ (codes "\n" ++ body_bytes r.body))))))))
