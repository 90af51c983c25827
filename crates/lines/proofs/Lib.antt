mod Traces
